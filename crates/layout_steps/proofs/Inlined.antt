-- A program of which calls are inlined lays out.
use Rattle.std.proofs.Common.{◌≡◌, ◌⊎◌, inl, inr, ℕ, zero, suc, ◌+◌, ◌<◌, ◌≤◌, Bool, true, List, [], ◌∷◌, length, Option, Some, None, refl, sym, ap, ◌∙◌, subst, arith}
use Rattle.std.specs.Prelude.{Contains, sum_by, slice_get}
use Rattle.std.proofs.lemmas.Bool.{leb-true}
use Rattle.std.proofs.lemmas.List.Sums.{sum_by-cons}
use Rattle.lemmas.proofs.Lists.{map_long, got_short}
use Rattle.lemmas.proofs.Options.{none_some, some_same}
use Rattle.insn_set.specs.declared.form.Insn.{Insn}
use Rattle.program_model.specs.BodyRules.{body_fits}
use Rattle.program_model.specs.Items.{region_items, body_items, method_items, class_items, items_of}
use Rattle.program_model.specs.ProgramRules.{is_well_formed}
use Rattle.program_model.specs.RegionRules.{may_begin, rest_fits}
use Rattle.program_model.specs.declared.body.Handler.{Handler}
use Rattle.program_model.specs.declared.body.Region.{Region}
use Rattle.program_model.specs.declared.body.Body.{Body}
use Rattle.program_model.specs.declared.pass.Origin.{Origin}
use Rattle.program_model.specs.declared.program.Class.{Class}
use Rattle.program_model.specs.declared.program.Method.{Method}
use Rattle.program_model.specs.declared.program.MethodAt.{MethodAt}
use Rattle.program_model.specs.declared.program.Program.{Program}
use Rattle.program_model.proofs.Formed.{formed}
use Rattle.hierarchy.specs.declared.build.Hierarchy.{Hierarchy}
use Rattle.facts.specs.declared.facts.Facts.{Facts}
use Rattle.pass_defs.specs.Thinned.{region_moved}
use Rattle.splice.specs.declared.callee.Callee.{Callee}
use Rattle.splice.specs.Shifted.{word, place_in}
use Rattle.splice.specs.Pieces.{places_in}
use Rattle.thin_laws.proofs.Rules.{rest_of, may_begin_at}
use Rattle.thin_laws.proofs.Tidied.{code_rules}
use Rattle.inline_calls.specs.declared.site.Caller.{Caller}
use Rattle.inline_calls.specs.declared.caller.Inliner.{Inliner}
use Rattle.inline_calls.specs.declared.editing.Edit.{Edit}
use Rattle.inline_calls.specs.declared.done.Done.{Done}
use Rattle.inline_calls.specs.Accepting.{Weighs, Unasked, Refused, Agreed, Tries, Unsuited, Suited, chosen_by, HasTried, Untried, Tried}
use Rattle.inline_calls.specs.Asked.{Row}
use Rattle.inline_calls.specs.Edited.{method_by, each_by, class_by, program_by}
use Rattle.inline_calls.specs.Plans.{nothing_done, edit_of, IsCallerOf, LooksAt, Bare, Barred, Looked, LooksAtMethod, LooksInClass, IsInlined}
use Rattle.inline_calls.specs.Rooms.{HasRoom, spliced_by, new_of}
use Rattle.calls_kept.proofs.Looked.{looked_long, looked_at}
use Rattle.dex_defs.specs.LaysOut.{LaysOutMethod, LaysOutBody, LaysOut}
use Rattle.layout_law.proofs.Methods.{MethodLies, ClassLies, got_all, all_got, contained}
use Rattle.layout_steps.proofs.Short.{Inside, short_lies}

-- ---- what is accepted has room

module _ (i : Inliner) (c : Caller) (cells : ℕ) where
  abbrev Roomy : List (Option Callee) → Type 0
  Roomy chosen = (chosen ≡ []) ⊎ HasRoom i c cells (spliced_by i c chosen).body

  tries_room : (n : ℕ) (old new : List (Option Callee)) (rows : List Row) → Tries i c cells n old rows new → Roomy old → Roomy new
  tries_room n old _ _ (Unsuited none) h = h
  tries_room n old _ _ (Suited y new rows _ candidate with_it (Unasked lacks)) h = h
  tries_room n old _ _ (Suited y new rows _ candidate with_it (Refused row room asked other)) h = h
  tries_room n old _ _ (Suited y new rows _ candidate with_it (Agreed row room asked agreed)) h = inr room

  tried_room : (n : ℕ) (rows : List Row) (chosen : List (Option Callee)) → HasTried i c cells n rows chosen → Roomy chosen
  tried_room _ _ _ Untried = inl refl
  tried_room _ _ _ (Tried n rows more old new before tries) = tries_room n old new more tries (tried_room n rows old before)

-- ---- a region of a well-formed program

below : {A : Type 0} (f : A → ℕ) (xs : List A) (x : A) → Contains xs x → f x ≤ sum_by f xs
below f [] x (n, l, e) = absurd (omega (arith, l))
below f (y ∷ xs) x (zero, l, e) = omega (arith, sum_by-cons f y xs, ap f e)
below f (y ∷ xs) x (suc n, l, e) = let r = below f xs x (n, omega (arith, l), e) in omega (arith, sum_by-cons f y xs, r)

begins_inside : (is : List Insn) (k : ℕ) → may_begin (slice_get is k) ≡ true → k < length is
begins_inside [] k h = absurd cc
begins_inside (i ∷ is) zero h = omega arith
begins_inside (i ∷ is) (suc k) h = let r = begins_inside is k h in omega (arith, r)

module _ (q : Program) (well : is_well_formed q ≡ true) (c : Class) (m : Method) (b : Body) (class : Contains q.classes c) (method : Contains c.methods m) (code : m.body ≡ Some b) where
  fits : body_fits q b ≡ true
  fits = (code_rules q c m b well class method code).0

  few_handlers : (r : Region) → Contains b.regions r → length r.handlers < 2147483648
  unfolding items_of class_items
  few_handlers r j =
      let region = below region_items b.regions r j in
      let body : body_items m.body ≡ body_items (Some b) = ap body_items code in
      let methods = below method_items c.methods m method in
      let classes = below class_items q.classes c class in
      let all = leb-true (items_of q) 16777216 (formed q well).items in
      omega (arith, region, body, methods, classes, all)

  rest_inside : (is : List Insn) (o : Option ℕ) (k : ℕ) → rest_fits is o ≡ true → o ≡ Some k → k < length is
  rest_inside is None k h e = none_some k e
  rest_inside is (Some j) k h e = let s : j ≡ k = some_same j k e in let l = begins_inside is j h in omega (arith, s, l)

  inside : (r : Region) → Contains b.regions r → Inside b.insns r
  inside r j = record {
    few = few_handlers r j;
    handlers = λ h k. begins_inside b.insns h.position (may_begin_at q b fits r j h k);
    rest = λ k e. rest_inside b.insns r.rest k (rest_of q b fits r j) e;
  }

-- ---- methods

-- what stands in a list that is changed item by item comes of what stood at its place
record WasThere {A E : Type 0} (by : E → A → A) (es : List E) (xs : List A) (k : ℕ) (y : A) : Type 0 where
  old : A
  edit : E
  stood : slice_get xs k ≡ Some old
  edited : slice_get es k ≡ Some edit
  is : by edit old ≡ y

was_there : {A E : Type 0} (by : E → A → A) (es : List E) (xs : List A) → length es ≡ length xs → (k : ℕ) (y : A) → slice_get (each_by by es xs) k ≡ Some y → WasThere by es xs k y
was_there by [] [] l k y e = none_some y e
was_there by [] (x ∷ xs) l k y e = absurd (omega (arith, l))
was_there by (f ∷ es) [] l k y e = absurd (omega (arith, l))
was_there by (f ∷ es) (x ∷ xs) l zero y e = record { old = x; edit = f; stood = refl; edited = refl; is = some_same (by f x) y e }
was_there by (f ∷ es) (x ∷ xs) l (suc k) y e = let w = was_there by es xs (omega (arith, l)) k y e in record { old = w.old; edit = w.edit; stood = w.stood; edited = w.edited; is = w.is }

module _ (i : Inliner) (strings : i.numbers.strings.items ≡ []) (types : i.numbers.types.items ≡ []) (q : Program) (well : is_well_formed q ≡ true) where
  module _ (d : Class) (class : Contains q.classes d) where
    -- a caller with methods copied, as it stands in the new program
    copied_lies : (z : Caller) (chosen : List (Option Callee)) (cells : ℕ) (n : Method) → Contains d.methods n → n.body ≡ Some (spliced_by i z chosen).body → HasRoom i z cells (spliced_by i z chosen).body → LaysOutBody z.body.now → MethodLies n
    copied_lies z chosen cells n method code room l =
        let few = map_long (region_moved (place_in (places_in i.known.program.now z.body.now chosen))) z.body.now.regions in
        subst LaysOutMethod (sym code)
        (short_lies i.numbers strings types (spliced_by i z chosen).body (omega (arith, few, l.few)) (inside q well d n (spliced_by i z chosen).body class method code) room.short)

    by_chosen : (z : Caller) (m : Method) → m.body ≡ Some z.body.now → (chosen : List (Option Callee)) (cells : ℕ) → Roomy i z cells chosen → Contains d.methods (method_by (edit_of (new_of i z chosen)) m) → MethodLies m → MethodLies (method_by (edit_of (new_of i z chosen)) m)
    by_chosen z m code [] cells room method l = l
    by_chosen z m code (y ∷ ys) cells (inl none) method l = absurd (let j : (y ∷ ys) ≡ [] = none in cc)
    by_chosen z m code (y ∷ ys) cells (inr room) method l = copied_lies z (y ∷ ys) cells (method_by (edit_of (new_of i z (y ∷ ys))) m) method refl room (subst LaysOutMethod code l)

    method_lies : (c : Class) (at : MethodAt) (m : Method) (before behind : Done) (rows : List Row) (edit : Option Edit) → LooksAt i c at m before rows edit behind → Contains d.methods (method_by edit m) → MethodLies m → MethodLies (method_by edit m)
    method_lies c at m before _ _ _ (Bare none) method l = l
    method_lies c at m before _ _ _ (Barred none) method l = l
    method_lies c at m before behind rows edit (Looked z _ _ _ marked is looked) method l =
        let room = tried_room i z before.cells (length z.body.now.insns) rows looked.chosen looked.tried in
        subst (λ (x : Option Edit). MethodLies (method_by x m)) (sym looked.edit)
        (by_chosen z m is.code looked.chosen before.cells room (subst (λ (x : Option Edit). Contains d.methods (method_by x m)) looked.edit method) l)

  class_lies : (k : ℕ) (c : Class) (before behind : Done) (rows : List Row) (row : List (Option Edit)) → LooksInClass i k c before rows row behind → Contains q.classes (class_by row c) → ClassLies c → ClassLies (class_by row c)
  class_lies k c before behind rows row looked class l = all_got MethodLies (class_by row c).methods (λ j n e.
      let x = was_there method_by row c.methods (looked_long (LooksAtMethod i (word k) c) c.methods before (length c.methods) rows row behind looked) j n e in
      let z = looked_at (LooksAtMethod i (word k) c) c.methods before (length c.methods) rows row behind looked j x.old (got_short c.methods j x.old x.stood) x.stood in
      let same : method_by z.one x.old ≡ n = ap (λ (y : Option Edit). method_by y x.old) (some_same z.one x.edit (sym z.there ∙ x.edited)) ∙ x.is in
      let method = contained (class_by row c).methods j n e in
      subst MethodLies same (method_lies (class_by row c) class c (record { class = word k; place = word j }) x.old z.before z.behind z.rows z.one z.looked
      (subst (Contains (class_by row c).methods) (sym same) method) (got_all MethodLies c.methods j x.old l x.stood)))

pub inlined_lies : (p q : Program) (h : Hierarchy) (facts : Facts) (admitted : List Bool) (count : ℕ) (origins : List (List Origin)) (rows : List Row) → IsInlined p h facts admitted q count origins rows → is_well_formed q ≡ true → LaysOut p → LaysOut q
inlined_lies p q h facts admitted count origins rows x well l =
    let i = x.planned.inliner in
    subst LaysOut (sym x.program) (all_got ClassLies (program_by x.edits p).classes (λ k d e.
    let w = was_there class_by x.edits p.classes (looked_long (LooksInClass i) p.classes (nothing_done p) (length p.classes) rows x.edits x.last x.planned.looked) k d e in
    let z = looked_at (LooksInClass i) p.classes (nothing_done p) (length p.classes) rows x.edits x.last x.planned.looked k w.old (got_short p.classes k w.old w.stood) w.stood in
    let same : class_by z.one w.old ≡ d = ap (λ (r : List (Option Edit)). class_by r w.old) (some_same z.one w.edit (sym z.there ∙ w.edited)) ∙ w.is in
    let class : Contains q.classes d = subst (λ (y : Program). Contains y.classes d) (sym x.program) (contained (program_by x.edits p).classes k d e) in
    subst ClassLies same (class_lies i x.planned.for.strings x.planned.for.types q well k w.old z.before z.behind z.rows z.one z.looked (subst (Contains q.classes) (sym same) class) (got_all ClassLies p.classes k w.old l w.stood))))
