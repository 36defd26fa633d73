-- Methods that were looked at, one after another: how many calls are inlined, and what stays.
use Rattle.std.proofs.Common.{◌≡◌, ℕ, zero, suc, ◌+◌, ◌<◌, ◌≤◌, ◌^◌, ◌-◌, min, Bool, true, List, [], ◌∷◌, ◌++◌, length, get_or, refl, sym, ap, ◌∙◌, subst, arith, ◌⊎◌, inl, inr, Option, Some, None, slice_get}
use Rattle.std.proofs.lemmas.Bool.{cases_eq}
use Rattle.std.proofs.lemmas.List.{length_push, get_or_append_left}
use Rattle.std.proofs.Math.Seq.{get_or-append_seam}
use Rattle.facts.specs.declared.facts.Facts.{Facts}
use Rattle.hierarchy.specs.declared.Hierarchy.{Hierarchy}
use Rattle.program_model.specs.Cells.{capped}
use Rattle.program_model.specs.ProgramRules.{is_well_formed}
use Rattle.redex_outside.specs.Voices.{Voice}
use Rattle.verify.specs.Methods.{TypesAll}
use Rattle.program_model.specs.declared.pass.Origin.{Origin}
use Rattle.program_model.specs.declared.program.Class.{Class}
use Rattle.program_model.specs.declared.program.Method.{Method}
use Rattle.program_model.specs.declared.program.MethodAt.{MethodAt}
use Rattle.program_model.specs.declared.program.Program.{Program}
use Rattle.splice.specs.declared.callee.Callee.{Callee}
use Rattle.splice.specs.declared.spliced.Spliced.{Spliced}
use Rattle.inline_calls.specs.declared.site.Caller.{Caller}
use Rattle.inline_calls.specs.declared.caller.Inliner.{Inliner}
use Rattle.inline_calls.specs.declared.caller.Accepted.{Accepted}
use Rattle.inline_calls.specs.declared.done.Done.{Done}
use Rattle.inline_calls.specs.declared.editing.Edit.{Edit}
use Rattle.splice.specs.Shifted.{word}
use Rattle.inline_calls.specs.Accepting.{HasTried, IsAccepted}
use Rattle.inline_calls.specs.Asked.{Row, Asks, agreed_count}
use Rattle.inline_calls.specs.Edited.{method_by, each_by, class_by, program_by}
use Rattle.inline_calls.specs.Plans.{nothing_done, noted, edit_of, IsCallerOf, HasLooked, HasBegun, BeginsAt, LooksAt, Bare, Barred, Looked, HaveLooked, NoneLooked, OneLooked, HaveBegun, Between, Within, LooksAtMethod, BeginsAtMethod, LooksIn, BeginsIn, LooksInClass, BeginsInClass, LooksThrough, BeginsThrough, IsFor, IsPlanned, origins_if, IsInlined, IsBegun, Unbegun, Begins}
use Rattle.inline_calls.specs.Rooms.{new_of}
use Rattle.inline_calls.proofs.Accepting.{tried_empty, tried_none}
use Rattle.inline_calls.proofs.Asks.{agreed-append}
use Rattle.inline_calls.proofs.Edits.{each_same}

-- ---- one caller

-- what is accepted of it is noted
pub has_looked : (i : Inliner) (c : Caller) (d e : Done) (a : Accepted) (n : ℕ) (edit : Option Edit) → n ≡ length c.body.now.insns → edit ≡ edit_of a.spliced → e ≡ noted c a.spliced a.count d
    → (rows : List Row) → IsAccepted i c d.cells n a rows → HasLooked i c d rows edit e
has_looked i c d e a n edit long is done rows accepted = record {
  chosen = a.chosen.items;
  tried = subst (λ (m : ℕ). HasTried i c d.cells m rows a.chosen.items) long accepted.tried;
  edit = is ∙ ap edit_of accepted.spliced;
  done = done ∙ ap (λ (s : Option Spliced). noted c s a.count d) accepted.spliced ∙ ap (λ (k : ℕ). noted c (new_of i c a.chosen.items) k d) accepted.count;
}

new_none : (i : Inliner) (c : Caller) (chosen : List (Option Callee)) → new_of i c chosen ≡ None → chosen ≡ []
new_none i c [] e = refl
new_none i c (y ∷ ys) e = absurd (cc e)

caps : (d m k : ℕ) → d ≡ capped m → min (d + capped k) (2 ^ 64 - 1) ≡ capped (m + k)
caps d m k e = omega arith

caps_none : (d m k : ℕ) → d ≡ capped m → k ≡ 0 → d ≡ capped (m + k)
caps_none d m k e z = omega arith

noted_count : (c : Caller) (s : Option Spliced) (d : Done) (m k : ℕ) → d.count ≡ capped m → (s ≡ None → k ≡ 0) → (noted c s (capped k) d).count ≡ capped (m + k)
noted_count c None d m k e none = caps_none d.count m k e (none refl)
noted_count c (Some s) d m k e none = caps d.count m k e

looked_count : (i : Inliner) (c : Caller) (d e : Done) (rows : List Row) (edit : Option Edit) (m : ℕ) → HasLooked i c d rows edit e → d.count ≡ capped m → e.count ≡ capped (m + agreed_count rows)
looked_count i c d e rows edit m h was =
    ap (λ (x : Done). x.count) h.done
    ∙ noted_count c (new_of i c h.chosen) d m (agreed_count rows) was (λ none. tried_empty i c d.cells (length c.body.now.insns) rows h.chosen h.tried (new_none i c h.chosen none))

looked_none : (i : Inliner) (c : Caller) (d e : Done) (rows : List Row) (edit : Option Edit) → HasLooked i c d rows edit e → agreed_count rows ≡ 0 → edit ≡ None
looked_none i c d e rows edit h none =
    h.edit ∙ ap (λ (l : List (Option Callee)). edit_of (new_of i c l)) (tried_none i c d.cells (length c.body.now.insns) rows h.chosen h.tried none)

-- ---- one method

method_count : (i : Inliner) (class : Class) (at : MethodAt) (x : Method) (d : Done) (rows : List Row) (edit : Option Edit) (e : Done) (m : ℕ) → LooksAt i class at x d rows edit e
    → d.count ≡ capped m → e.count ≡ capped (m + agreed_count rows)
method_count i class at x d _ _ _ m (Bare none) was = caps_none d.count m 0 was refl
method_count i class at x d _ _ _ m (Barred barred) was = caps_none d.count m 0 was refl
method_count i class at x d _ _ _ m (Looked c rows edit e admitted is looked) was = looked_count i c d e rows edit m looked was

method_none : (i : Inliner) (class : Class) (at : MethodAt) (x : Method) (d : Done) (rows : List Row) (edit : Option Edit) (e : Done) → LooksAt i class at x d rows edit e
    → agreed_count rows ≡ 0 → method_by edit x ≡ x
method_none i class at x d _ _ _ (Bare none) z = refl
method_none i class at x d _ _ _ (Barred barred) z = refl
method_none i class at x d _ _ _ (Looked c rows edit e admitted is looked) z = ap (λ (o : Option Edit). method_by o x) (looked_none i c d e rows edit looked z)

-- the place of a method is that of a number
pub at_place : (i : Inliner) (class : Class) (place n k : ℕ) (m : Method) (d e : Done) (edit : Option Edit) → n ≡ word k → (rows : List Row) → LooksAt i class (record { class = place; place = n }) m d rows edit e
    → LooksAtMethod i place class k m d rows edit e
at_place i class place n k m d e edit is rows looks = subst (λ (j : ℕ). LooksAt i class (record { class = place; place = j }) m d rows edit e) is looks

pub begins_place : (i : Inliner) (class : Class) (place n k : ℕ) (m : Method) (d : Done) → n ≡ word k → (rows : List Row) → BeginsAt i class (record { class = place; place = n }) m d rows → BeginsAtMethod i place class k m d rows
begins_place i class place n k m d is rows begun = subst (λ (j : ℕ). BeginsAt i class (record { class = place; place = j }) m d rows) is begun

pub in_place : (i : Inliner) (n k : ℕ) (class : Class) (d e : Done) (row : List (Option Edit)) → n ≡ word k → (rows : List Row) → LooksIn i n class d rows row e → LooksInClass i k class d rows row e
in_place i n k class d e row is rows looks = subst (λ (j : ℕ). LooksIn i j class d rows row e) is looks

pub begins_in : (i : Inliner) (n k : ℕ) (class : Class) (d : Done) → n ≡ word k → (rows : List Row) → BeginsIn i n class d rows → BeginsInClass i k class d rows
begins_in i n k class d is rows begun = subst (λ (j : ℕ). BeginsIn i j class d rows) is begun

-- ---- items of a list

inside : {A : Type 0} (xs : List A) (k : ℕ) (x : A) → slice_get xs k ≡ Some x → k < length xs
inside [] k x e = absurd (cc e)
inside (y ∷ xs) zero x e = omega arith
inside (y ∷ xs) (suc k) x e = omega (arith, inside xs k x e)

pub got : {A : Type 0} (xs : List A) (k : ℕ) (x : A) → k < length xs → x ≡ get_or xs k x → slice_get xs k ≡ Some x
got [] k x lt e = absurd (omega (arith, lt))
got (y ∷ xs) zero x lt e = ap (λ z. Some z) (sym e)
got (y ∷ xs) (suc k) x lt e = got xs k x (omega arith) e

pub got_in : {A : Type 0} (xs slice : List A) (k : ℕ) (x : A) → slice ≡ xs → k < length slice → x ≡ get_or slice k x → slice_get xs k ≡ Some x
got_in xs slice k x e lt is = subst (λ l. slice_get l k ≡ Some x) e (got slice k x lt is)

module _ {A E : Type 0} (looks : ℕ → A → Done → List Row → E → Done → Type 0) (xs : List A) (d : Done) where
  looked_length : (n : ℕ) (rows : List Row) (given : List E) (e : Done) → HaveLooked looks xs d n rows given e → length given ≡ n
  looked_length _ _ _ _ NoneLooked = refl
  looked_length _ _ _ _ (OneLooked n x rows more given one e f was at is) = length_push given one ∙ ap (λ k. k + 1) (looked_length n rows given e was)

  looked_within : (n : ℕ) (rows : List Row) (given : List E) (e : Done) → HaveLooked looks xs d n rows given e → n ≤ length xs
  looked_within _ _ _ _ NoneLooked = omega arith
  looked_within _ _ _ _ (OneLooked n x rows more given one e f was at is) = omega (arith, inside xs n x at)

  pub none_looked : (given : List E) → given ≡ [] → HaveLooked looks xs d 0 [] given d
  none_looked given e = subst (λ (l : List E). HaveLooked looks xs d 0 [] l d) (sym e) NoneLooked

  -- one item more
  pub next_looked : (n : ℕ) (x : A) (given next : List E) (one : E) (e f : Done) → slice_get xs n ≡ Some x → next ≡ given ++ one ∷ []
      → (rows more : List Row) → HaveLooked looks xs d n rows given e → looks n x e more one f → HaveLooked looks xs d (n + 1) (rows ++ more) next f
  next_looked n x given next one e f at pushed rows more was is =
      subst (λ (l : List E). HaveLooked looks xs d (n + 1) (rows ++ more) l f) (sym pushed) (OneLooked n x rows more given one e f was at is)

  -- all items, where none is left
  pub all_looked : (n : ℕ) → length xs ≤ n → (given out : List E) (e : Done) → out ≡ given → (rows : List Row) → HaveLooked looks xs d n rows given e → HaveLooked looks xs d (length xs) rows out e
  all_looked n le given out e is rows was =
      subst (λ (l : List E). HaveLooked looks xs d (length xs) rows l e) (sym is) (subst (λ (k : ℕ). HaveLooked looks xs d k rows given e) (omega (arith, le, looked_within n rows given e was)) was)

  pub all_count : ((k : ℕ) (x : A) (d : Done) (rows : List Row) (one : E) (e : Done) (m : ℕ) → looks k x d rows one e → d.count ≡ capped m → e.count ≡ capped (m + agreed_count rows))
      → (n : ℕ) (rows : List Row) (given : List E) (e : Done) (m : ℕ) → HaveLooked looks xs d n rows given e → d.count ≡ capped m → e.count ≡ capped (m + agreed_count rows)
  all_count each _ _ _ _ m NoneLooked start = caps_none d.count m 0 start refl
  all_count each _ _ _ _ m (OneLooked n x rows more given one e f was at is) start =
      each n x e more one f (m + agreed_count rows) is (all_count each n rows given e m was start) ∙ ap capped (omega (arith, agreed-append rows more))

  module _ (by : E → A → A) (none : E) (each : (k : ℕ) (x : A) (d : Done) (rows : List Row) (one : E) (e : Done) → looks k x d rows one e → agreed_count rows ≡ 0 → by one x ≡ x) where
    none_at : (n : ℕ) (rows : List Row) (given : List E) (e : Done) → HaveLooked looks xs d n rows given e → agreed_count rows ≡ 0
        → (k : ℕ) (x : A) → k < n → slice_get xs k ≡ Some x → by (get_or given k none) x ≡ x
    none_at _ _ _ _ NoneLooked z k x lt h = absurd (omega (arith, lt))
    none_at _ _ _ _ (OneLooked n y rows more given one e f was at is) z k x lt h =
        by_place (none_at n rows given e was (omega (arith, agreed-append rows more, z)) k x) (cases_eq k n)
      where
        by_place : (k < n → slice_get xs k ≡ Some x → by (get_or given k none) x ≡ x) → (k ≡ n) ⊎ (k ≡ n → ⊥) → by (get_or (given ++ one ∷ []) k none) x ≡ x
        by_place before (inl s) =
            let same : Some y ≡ Some x = sym at ∙ ap (slice_get xs) (sym s) ∙ h in
            let v : y ≡ x = cc same in
            let here : get_or (given ++ one ∷ []) k none ≡ one = ap (λ j. get_or (given ++ one ∷ []) j none) (s ∙ sym (looked_length n rows given e was)) ∙ get_or-append_seam given one [] none in
            ap (λ (w : E). by w x) here ∙ subst (λ (w : A). by one w ≡ w) v (each n y e more one f is (omega (arith, agreed-append rows more, z)))
        by_place before (inr ne) =
            let below : k < length given = omega (arith, looked_length n rows given e was) in
            ap (λ (w : E). by w x) (get_or_append_left given (one ∷ []) none k below)
            ∙ before (omega arith) h

    pub none_changed : (rows : List Row) (given : List E) (e : Done) → HaveLooked looks xs d (length xs) rows given e → agreed_count rows ≡ 0 → each_by by given xs ≡ xs
    none_changed rows given e was z = each_same by none given xs (λ k x at. none_at (length xs) rows given e was z k x (inside xs k x at) at)

-- ---- all methods

class_count : (i : Inliner) (k : ℕ) (x : Class) (d : Done) (rows : List Row) (one : List (Option Edit)) (e : Done) (m : ℕ) → LooksInClass i k x d rows one e
    → d.count ≡ capped m → e.count ≡ capped (m + agreed_count rows)
class_count i k x d rows one e m is start =
    all_count (LooksAtMethod i (word k) x) x.methods d (λ j y f more o g r. method_count i x (record { class = word k; place = word j }) y f more o g r) (length x.methods) rows one e m is start

class_none : (i : Inliner) (k : ℕ) (x : Class) (d : Done) (rows : List Row) (one : List (Option Edit)) (e : Done) → LooksInClass i k x d rows one e → agreed_count rows ≡ 0 → class_by one x ≡ x
class_none i k x d rows one e is z =
    ap (λ (ms : List Method). record x { methods = ms })
    (none_changed (LooksAtMethod i (word k) x) x.methods d method_by None (λ j y f more o g. method_none i x (record { class = word k; place = word j }) y f more o g) rows one e is z)

-- the count is that of the asks that all advisers answered with yes
pub through_count : (i : Inliner) (cs : List Class) (d e : Done) (rows : List Row) (edits : List (List (Option Edit))) → LooksThrough i cs d rows edits e → d.count ≡ 0 → e.count ≡ capped (agreed_count rows)
through_count i cs d e rows edits is start =
    all_count (LooksInClass i) cs d (class_count i) (length cs) rows edits e 0 is (omega (arith, start)) ∙ ap capped (omega arith)

-- where there is none, the program stays
pub through_none : (i : Inliner) (p : Program) (d e : Done) (rows : List Row) (edits : List (List (Option Edit))) → LooksThrough i p.classes d rows edits e
    → e.count ≡ capped (agreed_count rows) → e.count ≡ 0 → program_by edits p ≡ p
through_none i p d e rows edits is counted z =
    ap (λ (cs : List Class). record p { classes = cs }) (none_changed (LooksInClass i) p.classes d class_by [] (class_none i) rows edits e is (omega (arith, counted, z)))

-- ---- a part alone

module _ {A E : Type 0} (looks : ℕ → A → Done → List Row → E → Done → Type 0) (begins : ℕ → A → Done → List Row → Type 0) (xs : List A) (d : Done) where
  -- memory did not suffice in the midst of an item
  pub begun_within : (n : ℕ) (x : A) (given : List E) (e : Done) → slice_get xs n ≡ Some x → (rows more : List Row) → HaveLooked looks xs d n rows given e → begins n x e more → HaveBegun looks begins xs d (rows ++ more)
  begun_within n x given e at rows more was begun = Within n x rows more given e was at begun

  -- or behind one
  pub begun_between : (n : ℕ) (x : A) (given : List E) (one : E) (e f : Done) → slice_get xs n ≡ Some x → (rows more : List Row) → HaveLooked looks xs d n rows given e → looks n x e more one f
      → HaveBegun looks begins xs d (rows ++ more)
  begun_between n x given one e f at rows more was is = Between (n + 1) (rows ++ more) (given ++ one ∷ []) f (OneLooked n x rows more given one e f was at is)

pub planned_begun : (p : Program) (h : Hierarchy) (facts : Facts) (admitted : List Bool) (d e : Done) (edits : List (List (Option Edit))) (rows : List Row)
    → IsPlanned p h facts admitted d e edits rows → IsBegun p h facts admitted d rows
planned_begun p h facts admitted d e edits rows is = Begins is.inliner rows is.for (Between (length p.classes) rows edits e is.looked)

-- ---- the program

module _ (p : Program) (h : Hierarchy) (facts : Facts) (admitted : List Bool) where
  pub planned_by : (i : Inliner) (d e : Done) (edits : List (List (Option Edit))) → IsFor p h facts admitted i → (cs : List Class) → cs ≡ p.classes → (rows : List Row) → LooksThrough i cs d rows edits e → IsPlanned p h facts admitted d e edits rows
  planned_by i d e edits is cs same rows looked = record { inliner = i; for = is; looked = subst (λ (l : List Class). LooksThrough i l d rows edits e) same looked }

  pub begun_by : (i : Inliner) (d : Done) → IsFor p h facts admitted i → (cs : List Class) → cs ≡ p.classes → (rows : List Row) → BeginsThrough i cs d rows → IsBegun p h facts admitted d rows
  begun_by i d is cs same rows begun = Begins i rows is (subst (λ (l : List Class). BeginsThrough i l d rows) same begun)

  -- the same of what was done at the beginning
  pub begun_from : (d s : Done) → d ≡ s → (rows : List Row) → IsBegun p h facts admitted d rows → IsBegun p h facts admitted s rows
  begun_from d s e rows begun = subst (λ (f : Done). IsBegun p h facts admitted f rows) e begun

  pub is_inlined : (q : Program) (d last : Done) (edits : List (List (Option Edit))) (count : ℕ) (origins : List (List Origin)) → d ≡ nothing_done p → q ≡ program_by edits p → count ≡ last.count → origins ≡ origins_if count last.origins
      → (rows : List Row) → IsPlanned p h facts admitted d last edits rows → IsInlined p h facts admitted q count origins rows
  is_inlined q d last edits count origins start made counts are rows was =
      let planned : IsPlanned p h facts admitted (nothing_done p) last edits rows = subst (λ (f : Done). IsPlanned p h facts admitted f last edits rows) start was in
      let counted : last.count ≡ capped (agreed_count rows) = through_count planned.inliner p.classes (nothing_done p) last rows edits planned.looked refl in
      record {
        edits = edits;
        last = last;
        planned = planned;
        program = made;
        origins_are = are;
        counted = counts ∙ counted;
        same = λ z. made ∙ through_none planned.inliner p (nothing_done p) last rows edits planned.looked counted (sym counts ∙ z);
      }

  -- what is checked of a program in which calls are inlined holds of it also where none is
  pub kept_by : (P : Program → Type 0) (q : Program) (count : ℕ) (origins : List (List Origin)) (olds news : List Voice) (x y : List Bool) → Asks olds news x y (IsInlined p h facts admitted q count origins)
      → (count ≡ 0) ⊎ P q → P p → P q
  kept_by P q count origins olds news x y asks (inl z) was = subst P (sym (asks.holds.same z)) was
  kept_by P q count origins olds news x y asks (inr checked) was = checked

  pub formed_by : (q : Program) (count : ℕ) (origins : List (List Origin)) (olds news : List Voice) (x y : List Bool) → Asks olds news x y (IsInlined p h facts admitted q count origins)
      → (count ≡ 0) ⊎ (is_well_formed q ≡ true) → is_well_formed p ≡ true → is_well_formed q ≡ true
  formed_by q count origins olds news x y = kept_by (λ (r : Program). is_well_formed r ≡ true) q count origins olds news x y

  pub typed_by : (q : Program) (count : ℕ) (origins : List (List Origin)) (olds news : List Voice) (x y : List Bool) → Asks olds news x y (IsInlined p h facts admitted q count origins)
      → (count ≡ 0) ⊎ TypesAll q h → TypesAll p h → TypesAll q h
  typed_by q count origins olds news x y = kept_by (λ (r : Program). TypesAll r h) q count origins olds news x y

  -- the same with origins that are those
  pub with_origins : (marks : List Bool) (q : Program) (count : ℕ) (origins all : List (List Origin)) → marks ≡ admitted → origins ≡ origins_if count all → (rows : List Row)
      → IsInlined p h facts marks q count (origins_if count all) rows → IsInlined p h facts admitted q count origins rows
  with_origins marks q count origins all same are rows was =
      subst (λ (o : List (List Origin)). IsInlined p h facts admitted q count o rows) (sym are) (subst (λ (m : List Bool). IsInlined p h facts m q count (origins_if count all) rows) same was)
