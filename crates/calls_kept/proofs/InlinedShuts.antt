-- A program with copies at sites says no more: what a copy says, the method that is copied says too.
use Rattle.std.proofs.Common.{◌≡◌, ◌⊎◌, inl, inr, ℕ, zero, suc, ◌+◌, Bool, true, false, true≢false, List, [], ◌∷◌, ◌++◌, length, map, drop, Option, Some, None, refl, sym, ap, ap₂, ◌∙◌, subst}
use Rattle.std.specs.Prelude.{◌||◌, if◌then◌else◌, slice_get, option_and_then}
use Rattle.std.specs.List.{list_any}
use Rattle.std.specs.Option.{option_map}
use Rattle.lemmas.proofs.Bools.{or_left, or_right}
use Rattle.lemmas.proofs.Lists.{map_append}
use Rattle.lemmas.proofs.Options.{none_some, some_same}
use Rattle.insn_set.specs.declared.ops.InvokeKind.TheVariants as call
use Rattle.program_model.specs.Lookups.{method_at}
use Rattle.program_model.specs.ProgramRules.{is_well_formed}
use Rattle.program_model.specs.declared.body.Body.{Body}
use Rattle.program_model.specs.declared.program.Class.{Class}
use Rattle.program_model.specs.declared.program.Method.{Method}
use Rattle.program_model.specs.declared.program.MethodAt.{MethodAt}
use Rattle.program_model.specs.declared.program.Program.{Program}
use Rattle.hierarchy.specs.Shapes.{IsResolved}
use Rattle.hierarchy.specs.declared.build.Hierarchy.{Hierarchy}
use Rattle.facts.specs.declared.facts.Facts.{Facts}
use Rattle.dalvik_defs.specs.Names.{Text, is_wide}
use Rattle.dalvik_defs.specs.Naming.{body_of, named, named_class, named_method}
use Rattle.dalvik_defs.specs.Outer.{Outer}
use Rattle.dalvik_defs.specs.Silence.{key_in}
use Rattle.dalvik_defs.specs.declared.names.MethodKey.{MethodKey}
use Rattle.dalvik_defs.specs.declared.forms.Form.{Form}
use Rattle.dalvik_defs.specs.declared.forms.Form.TheVariants as form
use Rattle.dalvik_defs.specs.declared.program.NamedBody.{NamedBody}
use Rattle.dalvik_defs.specs.declared.program.NamedClass.{NamedClass}
use Rattle.dalvik_defs.specs.declared.program.NamedMethod.{NamedMethod}
use Rattle.dalvik_defs.specs.declared.program.NamedProgram.{NamedProgram}
use Rattle.pass_defs.specs.Remade.{remade, retargeted}
use Rattle.pass_defs.specs.Typed.{IsTyped}
use Rattle.pass_defs.specs.Walks.{form_at}
use Rattle.pass_defs.specs.Inlined.{Callee, Taken, Piece, taken_by, callee_at, greatest, slot_of, passed_types, moves_to, moves_of, copied, copy_place, is_dropped, place_of, piece, copy_piece, copies, inlined_call, kept_form, pieces_at, pieces_from, inlined}
use Rattle.removal_law.specs.Left.{In, here, there}
use Rattle.removal_law.specs.Reach.{ShutsHold}
use Rattle.removal_law.proofs.Outward.{any_here}
use Rattle.removal_law.proofs.ShutLeft.{any_code, some_code}
use Rattle.program_laws.specs.Others.{OtherMethod, OtherClass}
use Rattle.program_laws.specs.Numbered.{OtherNumberedBodies}
use Rattle.program_laws.specs.Said.{Said, Quiet, said}
use Rattle.program_laws.proofs.Changed.{partner, other_holds}
use Rattle.calls_kept.specs.Copied.{accepted_by}
use Rattle.calls_kept.specs.Spliced.{SplicesSo}
use Rattle.calls_kept.proofs.InlinedNamed.{SplicesNamed, NoCode, Same, Spliced, named_others, site_there}

-- ---- what forms say

module _ (p : NamedProgram) where
  same_said : (r w t : ℕ → ℕ) (f : Form) → said p (remade r w t f) ≡ said p f
  same_said r w t (form.Invoke call.Virtual k rs) = refl
  same_said r w t (form.Invoke call.Interface k rs) = refl
  same_said r w t (form.Invoke call.Direct k rs) = refl
  same_said r w t (form.Invoke call.Super k rs) = refl
  same_said r w t (form.Invoke call.Static k rs) = refl
  same_said r w t f = refl

  module _ (test : Said → Bool) (quiet : test Quiet ≡ false) where
    abbrev says : Form → Bool
    says f = test (said p f)

    silent : (f : Form) → said p f ≡ Quiet → says f ≡ true → ⊥
    silent f e i = true≢false (sym i ∙ (ap test e ∙ quiet))

    either : (u v : Bool) {C : Type 0} → (u || v) ≡ true → (u ≡ true → C) → (v ≡ true → C) → C
    either true v e f g = f refl
    either false v e f g = g e

    any_split : (xs ys : List Form) → list_any says (xs ++ ys) ≡ true → (list_any says xs ≡ true) ⊎ (list_any says ys ≡ true)
    any_split [] ys e = inr e
    any_split (x ∷ xs) ys e = either (says x) (list_any says (xs ++ ys)) e (λ i. inl (or_left (says x) (list_any says xs) i)) (λ i. more (any_split xs ys i))
      where
        more : (list_any says xs ≡ true) ⊎ (list_any says ys ≡ true) → (list_any says (x ∷ xs) ≡ true) ⊎ (list_any says ys ≡ true)
        more (inl i) = inl (or_right (says x) (list_any says xs) i)
        more (inr i) = inr i

    -- moves say nothing
    moves_silent : (k : ℕ) (ts : List Text) (to : ℕ) (rs : List ℕ) → list_any says (moves_to k ts to rs) ≡ true → ⊥
    moves_silent k [] to rs e = true≢false (sym e)
    moves_silent k (t ∷ ts) to [] e = true≢false (sym e)
    moves_silent k (t ∷ ts) to (r ∷ rs) e = either (says (form.Move (slot_of t) to (r + k))) _ e (silent (form.Move (slot_of t) to (r + k)) refl)
        (by (is_wide t) (moves_silent k ts (to + 2) (drop 1 rs)) (moves_silent k ts (to + 1) rs))
      where
        by : (w : Bool) → (list_any says (moves_to k ts (to + 2) (drop 1 rs)) ≡ true → ⊥) → (list_any says (moves_to k ts (to + 1) rs) ≡ true → ⊥)
            → list_any says (elim w as (λ w. List Form) [ true ↦ moves_to k ts (to + 2) (drop 1 rs) | false ↦ moves_to k ts (to + 1) rs ]) ≡ true → ⊥
        by true a b i = a i
        by false a b i = b i

    one_says : (f g : Form) → said p g ≡ said p f → list_any says (g ∷ []) ≡ true → says f ≡ true
    one_says f g e i = either (says g) false i (λ j. sym (ap test e) ∙ j) (λ j. absurd (true≢false (sym j)))

    goto_silent : (end : ℕ) {C : Type 0} → list_any says (form.Goto end ∷ []) ≡ true → C
    goto_silent end i = either (says (form.Goto end)) false i (λ j. absurd (silent (form.Goto end) refl j)) (λ j. absurd (true≢false (sym j)))

    -- what stands for a form says what it says
    copied_says : (k : ℕ) (t : Taken) (end : ℕ) (place : ℕ → ℕ) (f : Form) → list_any says (copied k t end place f) ≡ true → says f ≡ true
    copied_says k None end place (form.Return s from) i = goto_silent end i
    copied_says k None end place form.ReturnVoid i = goto_silent end i
    copied_says k None end place f i = one_says f (retargeted place f) (same_said (λ r. r) (λ r. r) place f) i
    copied_says k (Some t) end place (form.Return s from) i = either (says (form.Move t.0 (t.1 + k) from)) (list_any says (form.Goto end ∷ [])) i (λ j. absurd (silent (form.Move t.0 (t.1 + k) from) refl j)) (goto_silent end)
    copied_says k (Some t) end place form.ReturnVoid i = goto_silent end i
    copied_says k (Some t) end place f i = one_says f (retargeted place f) (same_said (λ r. r) (λ r. r) place f) i

    -- ---- pieces

    abbrev forms : List Piece → List Form
    forms qs = map (λ q. q.form) qs

    of_forms : (f : Form → Piece) → ((x : Form) → (f x).form ≡ x) → (xs : List Form) → forms (map f xs) ≡ xs
    of_forms f h [] = refl
    of_forms f h (x ∷ xs) = ap₂ (λ y ys. y ∷ ys) (h x) (of_forms f h xs)

    module _ (key : MethodKey) (m : NamedMethod) (b : NamedBody) (accepted : List ℕ) where
      copies_say : (y : Callee) (n first end : ℕ) (t : Taken) (i : ℕ) (fs : List Form) → list_any says (forms (copies p key m b accepted y n first end t i fs)) ≡ true → list_any says fs ≡ true
      copies_say y n first end t i [] e = e
      copies_say y n first end t i (f ∷ fs) e =
          let shift = greatest p b accepted in
          let now = copied shift t end (λ j. first + copy_place t y.body.forms j) f in
          let rest = copies p key m b accepted y n first end t (suc i) fs in
          by (copies_say y n first end t (suc i) fs) (any_split now (forms rest) (sym (ap (list_any says) (map_append (λ q. q.form) (map (copy_piece p key m b accepted y n i) now) rest
          ∙ ap (λ xs. xs ++ forms rest) (of_forms (copy_piece p key m b accepted y n i) (λ z. refl) now))) ∙ e))
        where
          by : (list_any says (forms (copies p key m b accepted y n first end t (suc i) fs)) ≡ true → list_any says fs ≡ true) → (list_any says (copied (greatest p b accepted) t end (λ j. first + copy_place t y.body.forms j) f) ≡ true) ⊎ (list_any says (forms (copies p key m b accepted y n first end t (suc i) fs)) ≡ true) → (says f || list_any says fs) ≡ true
          by later (inl j) = or_left (says f) (list_any says fs) (copied_says (greatest p b accepted) t end (λ j. first + copy_place t y.body.forms j) f j)
          by later (inr j) = or_right (says f) (list_any says fs) (later j)

      -- a callee at a position says it
      record CalleeSays : Type 0 where
        place : ℕ
        callee : Callee
        is : callee_at p b accepted place ≡ Some callee
        says_it : list_any says callee.body.forms ≡ true

      call_says : (n : ℕ) (y : Callee) → list_any says (forms (inlined_call p key m b accepted n y)) ≡ true → list_any says y.body.forms ≡ true
      call_says n y e =
          let moved = map (piece p key m b accepted n) (moves_of (greatest p b accepted) y) in
          let rest = copies p key m b accepted y n (place_of p b accepted n + length (moves_of (greatest p b accepted) y)) (place_of p b accepted (n + 1)) (taken_by (form_at b (n + 1))) 0 y.body.forms in
          by (any_split (moves_of (greatest p b accepted) y) (forms rest) (sym (ap (list_any says) (map_append (λ q. q.form) moved rest
          ∙ ap (λ xs. xs ++ forms rest) (of_forms (piece p key m b accepted n) (λ z. refl) (moves_of (greatest p b accepted) y)))) ∙ e))
        where
          by : (list_any says (moves_of (greatest p b accepted) y) ≡ true)
              ⊎ (list_any says (forms (copies p key m b accepted y n (place_of p b accepted n + length (moves_of (greatest p b accepted) y)) (place_of p b accepted (n + 1)) (taken_by (form_at b (n + 1))) 0 y.body.forms)) ≡ true) → list_any says y.body.forms ≡ true
          by (inl j) = absurd (moves_silent (greatest p b accepted) (passed_types y) _ y.args j)
          by (inr j) = copies_say y n (place_of p b accepted n + length (moves_of (greatest p b accepted) y)) (place_of p b accepted (n + 1)) (taken_by (form_at b (n + 1))) 0 y.body.forms j

      kept_says : (n : ℕ) (f : Form) → list_any says (forms (kept_form p key m b accepted n f)) ≡ true → says f ≡ true
      kept_says n f e = by (is_dropped b accepted n) e
        where
          by : (d : Bool) → list_any says (forms (if d then [] else piece p key m b accepted n (remade (λ r. r + greatest p b accepted) (λ r. r + greatest p b accepted) (place_of p b accepted) f) ∷ [])) ≡ true → says f ≡ true
          by true i = absurd (true≢false (sym i))
          by false i = one_says f (remade (λ r. r + greatest p b accepted) (λ r. r + greatest p b accepted) (place_of p b accepted) f) (same_said (λ r. r + greatest p b accepted) (λ r. r + greatest p b accepted) (place_of p b accepted) f) i

      position_says : (n : ℕ) (f : Form) (o : Option Callee) → callee_at p b accepted n ≡ o → list_any says (forms (pieces_at p key m b accepted n f o)) ≡ true → (says f ≡ true) ⊎ CalleeSays
      position_says n f None e i = inl (kept_says n f i)
      position_says n f (Some y) e i = inr (record { place = n; callee = y; is = e; says_it = call_says n y i })

      pieces_say : (n : ℕ) (fs : List Form) → list_any says (forms (pieces_from p key m b accepted n fs)) ≡ true → (list_any says fs ≡ true) ⊎ CalleeSays
      pieces_say n [] e = inl e
      pieces_say n (f ∷ fs) e =
          let now = pieces_at p key m b accepted n f (callee_at p b accepted n) in
          let rest = pieces_from p key m b accepted (suc n) fs in
          by (pieces_say (suc n) fs) (any_split (forms now) (forms rest) (sym (ap (list_any says) (map_append (λ q. q.form) now rest)) ∙ e))
        where
          first : (says f ≡ true) ⊎ CalleeSays → ((says f || list_any says fs) ≡ true) ⊎ CalleeSays
          first (inl j) = inl (or_left (says f) (list_any says fs) j)
          first (inr j) = inr j

          more : (list_any says fs ≡ true) ⊎ CalleeSays → ((says f || list_any says fs) ≡ true) ⊎ CalleeSays
          more (inl j) = inl (or_right (says f) (list_any says fs) j)
          more (inr j) = inr j

          by : (list_any says (forms (pieces_from p key m b accepted (suc n) fs)) ≡ true → (list_any says fs ≡ true) ⊎ CalleeSays)
              → (list_any says (forms (pieces_at p key m b accepted n f (callee_at p b accepted n))) ≡ true) ⊎ (list_any says (forms (pieces_from p key m b accepted (suc n) fs)) ≡ true) → ((says f || list_any says fs) ≡ true) ⊎ CalleeSays
          by later (inl j) = first (position_says n f (callee_at p b accepted n) refl j)
          by later (inr j) = more (later j)

-- ---- programs

in_at : {A : Type 0} (xs : List A) (n : ℕ) (x : A) → slice_get xs n ≡ Some x → In x xs
in_at [] n x e = none_some x e
in_at (y ∷ xs) zero x e = subst (λ z. In z (y ∷ xs)) (some_same y x e) (here xs)
in_at (y ∷ xs) (suc n) x e = there y xs (in_at xs n x e)

in_map : {A B : Type 0} (f : A → B) (xs : List A) (x : A) → In x xs → In (f x) (map f xs)
in_map f [] x i = elim i [ ]
in_map f (y ∷ xs) _ (here _) = here (map f xs)
in_map f (y ∷ xs) x (there _ _ i) = there (f y) (map f xs) (in_map f xs x i)

module _ (p q : Program) (h : Hierarchy) (w : is_well_formed p ≡ true) (resolved : IsResolved p h) (typed : IsTyped (named p)) (facts : Facts) (others : OtherNumberedBodies (SplicesSo p h facts) p q) where
  module _ (test : Said → Bool) (quiet : test Quiet ≡ false) where
    abbrev T : Form → Bool
    T x = test (said (named p) x)

    -- code of a method by its places
    placed_says : (i j : ℕ) (c : Class) (m : Method) (b : Body) → slice_get p.classes i ≡ Some c → slice_get c.methods j ≡ Some m → m.body ≡ Some b → list_any T (body_of p b).forms ≡ true → any_code (named p) T ≡ true
    placed_says i j c m b ic im has e = any_here (λ (k : NamedClass). list_any (λ (n : NamedMethod). elim n.body as (λ o. Bool) [ Some b ↦ list_any T b.forms | None ↦ false ]) k.methods) (named_class p c) (named p).classes
        (in_map (named_class p) p.classes c (in_at p.classes i c ic))
        (any_here (λ (n : NamedMethod). elim n.body as (λ o. Bool) [ Some b ↦ list_any T b.forms | None ↦ false ]) (named_method p m) (named_class p c).methods (in_map (named_method p) c.methods m (in_at c.methods j m im))
        (ap (λ (o : Option Body). elim (option_map (body_of p) o) as (λ o. Bool) [ Some b ↦ list_any T b.forms | None ↦ false ]) has ∙ e))

    -- code that a method had
    had_says : (c : NamedClass) (m : NamedMethod) (b : NamedBody) → In c (named p).classes → In m c.methods → m.body ≡ Some b → list_any T b.forms ≡ true → any_code (named p) T ≡ true
    had_says c m b ic im has e = any_here (λ (k : NamedClass). list_any (λ (n : NamedMethod). elim n.body as (λ o. Bool) [ Some b ↦ list_any T b.forms | None ↦ false ]) k.methods) c (named p).classes ic
        (any_here (λ (n : NamedMethod). elim n.body as (λ o. Bool) [ Some b ↦ list_any T b.forms | None ↦ false ]) m c.methods im
        (ap (λ (o : Option NamedBody). elim o as (λ o. Bool) [ Some b ↦ list_any T b.forms | None ↦ false ]) has ∙ e))

    code_said : (c : NamedClass) (m : NamedMethod) → In c (named p).classes → In m c.methods → (k : MethodKey) (x y : Option NamedBody) (d : NamedBody) → m.body ≡ x → y ≡ Some d → SplicesNamed p h facts k x y → list_any T d.forms ≡ true
        → any_code (named p) T ≡ true
    code_said c m ic im k _ _ d e f NoCode i = none_some d f
    code_said c m ic im k _ _ d e f (Same b room) i = had_says c m (body_of p b) ic im e (ap (λ (z : NamedBody). list_any T z.forms) (some_same (body_of p b) d f) ∙ i)
    code_said c m ic im k _ _ d e f (Spliced at kc km b chosen kic kim has key s) i =
        by (pieces_say (named p) test quiet k (named_method p km) (body_of p b) (accepted_by chosen) 0 (body_of p b).forms
        (ap (λ (z : NamedBody). list_any T z.forms) (some_same (inlined (named p) k (named_method p km) (body_of p b) (accepted_by chosen)) d f) ∙ i))
      where
        copied_there : (n : ℕ) (y : Callee) → callee_at (named p) (body_of p b) (accepted_by chosen) n ≡ Some y → list_any T y.body.forms ≡ true → any_code (named p) T ≡ true
        copied_there n y j says =
            let t = site_there p h w resolved typed facts at kc km b chosen kic kim has s n y j in
            let z = s.each n t.callee t.there in
            placed_says z.place.class z.place.place kc t.callee.method.now t.callee.body.now (ap (slice_get p.classes) z.beside ∙ kic)
            (method_of z.place z.beside t.callee.method.now z.method) z.code
            (ap (λ (v : Callee). list_any T v.body.forms) (sym t.same) ∙ says)
          where
            method_of : (place : MethodAt) → place.class ≡ at.class → (x : Method) → method_at p place ≡ Some x → slice_get kc.methods place.place ≡ Some x
            method_of place beside x e = sym (ap (λ (o : Option Class). elim o as (λ o. Option Method) [ Some c ↦ slice_get c.methods place.place | None ↦ None ]) (ap (slice_get p.classes) beside ∙ kic)) ∙ of (slice_get p.classes place.class) ∙ e
              where
                of : (o : Option Class) → elim o as (λ o. Option Method) [ Some c ↦ slice_get c.methods place.place | None ↦ None ] ≡ option_and_then (λ (c : Class). slice_get c.methods place.place) o
                of None = refl
                of (Some c) = refl

        by : (list_any T (body_of p b).forms ≡ true) ⊎ CalleeSays (named p) test quiet k (named_method p km) (body_of p b) (accepted_by chosen) → any_code (named p) T ≡ true
        by (inl j) = had_says c m (body_of p b) ic im e j
        by (inr j) = copied_there j.place j.callee j.is j.says_it

    was_said : any_code (named q) T ≡ true → any_code (named p) T ≡ true
    was_said e =
        let all = named_others p h w resolved typed facts q others in
        let x = some_code (named q) T e in
        let c = partner (OtherClass (SplicesNamed p h facts)) (named p).classes (named q).classes all.classes x.class x.class_in in
        let m = partner (OtherMethod (SplicesNamed p h facts) c.0) c.0.methods x.class.methods c.1.1.methods x.method x.stands in
        code_said c.0 m.0 c.1.0 m.1.0 (key_in c.0 m.0) m.0.body x.method.body x.body refl x.coded m.1.1.related (any_here T x.form x.body.forms x.says x.passes)

  pub spliced_holds : (o : Outer) → ShutsHold (named p) o → ShutsHold (named q) o
  spliced_holds o holds = other_holds (SplicesNamed p h facts) (named p) (named q) o (named_others p h w resolved typed facts q others) was_said holds
