-- Where calls are inlined, a program stays but for the bodies of admitted methods, which have no more registers, or at most 16.
use Rattle.std.proofs.Common.{◌≡◌, ◌⊎◌, inl, inr, ℕ, zero, suc, ◌+◌, ◌≤◌, Bool, true, false, true≢false, List, [], ◌∷◌, length, Option, Some, None, refl, sym, ap, ap₂, ◌∙◌, subst, arith}
use Rattle.std.specs.Prelude.{◌&&◌, not, max, slice_get, slice_index_or}
use Rattle.std.proofs.lemmas.Bool.{leb-true}
use Rattle.lemmas.proofs.Bools.{and_left, and_right}
use Rattle.lemmas.proofs.Lists.{got_short}
use Rattle.lemmas.proofs.Options.{none_some, some_same}
use Rattle.program_model.specs.declared.body.Body.{Body}
use Rattle.program_model.specs.declared.pass.Origin.{Origin}
use Rattle.program_model.specs.declared.program.Class.{Class}
use Rattle.program_model.specs.declared.program.Method.{Method}
use Rattle.program_model.specs.declared.program.MethodAt.{MethodAt}
use Rattle.program_model.specs.declared.program.Program.{Program}
use Rattle.hierarchy.specs.declared.build.Hierarchy.{Hierarchy}
use Rattle.facts.specs.declared.facts.Facts.{Facts}
use Rattle.splice.specs.declared.callee.Callee.{Callee}
use Rattle.splice.specs.Callees.{chosen_at, greatest}
use Rattle.splice.specs.Shifted.{shifted, word}
use Rattle.inline_calls.specs.declared.site.Caller.{Caller}
use Rattle.inline_calls.specs.declared.caller.Inliner.{Inliner}
use Rattle.inline_calls.specs.declared.editing.Edit.{Edit}
use Rattle.inline_calls.specs.declared.done.Done.{Done}
use Rattle.inline_calls.specs.Accepting.{HasTried}
use Rattle.inline_calls.specs.Asked.{Row}
use Rattle.inline_calls.specs.declared.site.Known.{Known}
use Rattle.inline_calls.specs.Candidates.{IsCandidate, is_beside, is_plain, is_small, has_registers, result_stands_alone}
use Rattle.inline_calls.specs.Edited.{method_by, each_by, class_by}
use Rattle.inline_calls.specs.Plans.{nothing_done, edit_of, IsCallerOf, LooksAt, Bare, Barred, Looked, LooksAtMethod, LooksInClass, IsInlined}
use Rattle.inline_calls.specs.Rooms.{spliced_by, new_of}
use Rattle.inline_calls.proofs.Chosen.{tried_candidates}
use Rattle.bodies_kept.specs.Stays.{FewRegisters, MethodStaysBy, ClassStaysBy, StaysInlined}
use Rattle.bodies_kept.proofs.Staying.{few_same, method_same_by}
use Rattle.calls_kept.proofs.Looked.{IsSome, tried_some, looked_long, looked_at}

-- what stands in a list that is changed item by item comes of what stood at its place
record WasThere {A E : Type 0} (by : E → A → A) (es : List E) (xs : List A) (k : ℕ) (y : A) : Type 0 where
  old : A
  edit : E
  stood : slice_get xs k ≡ Some old
  edited : slice_get es k ≡ Some edit
  is : by edit old ≡ y

was_there : {A E : Type 0} (by : E → A → A) (es : List E) (xs : List A) → length es ≡ length xs → (k : ℕ) (y : A) → slice_get (each_by by es xs) k ≡ Some y → WasThere by es xs k y
was_there by [] [] l k y e = none_some y e
was_there by [] (x ∷ xs) l k y e = absurd (omega (arith, l))
was_there by (f ∷ es) [] l k y e = absurd (omega (arith, l))
was_there by (f ∷ es) (x ∷ xs) l zero y e = record { old = x; edit = f; stood = refl; edited = refl; is = some_same (by f x) y e }
was_there by (f ∷ es) (x ∷ xs) l (suc k) y e = let w = was_there by es xs (omega (arith, l)) k y e in record { old = w.old; edit = w.edit; stood = w.stood; edited = w.edited; is = w.is }

-- ---- registers

few_of : (k : Known) (c : Caller) (n : ℕ) (y : Callee) → IsCandidate k c n y → c.body.now.registers + y.body.now.registers ≤ 16
few_of k c n y x = leb-true (c.body.now.registers + y.body.now.registers) 16
    (and_right (is_beside c.at x.place && is_plain k.program.now y.method.now && is_small y.body.now) (has_registers c.body.now y.body.now)
    (and_left (is_beside c.at x.place && is_plain k.program.now y.method.now && is_small y.body.now && has_registers c.body.now y.body.now) (not (result_stands_alone c.body.now n)) x.suited))

-- the registers of methods that are chosen
greatest_few : (r n : ℕ) (cs : List (Option Callee)) → r ≤ n → ((k : ℕ) (y : Callee) → chosen_at cs k ≡ Some y → r + y.body.now.registers ≤ n) → r + greatest cs ≤ n
greatest_few r n [] l h = omega (arith, l)
greatest_few r n (None ∷ cs) l h = let m = greatest_few r n cs l (λ k. h (suc k)) in omega (arith, m)
greatest_few r n (Some c ∷ cs) l h = let m = greatest_few r n cs l (λ k. h (suc k)) in let f = h 0 c refl in omega (arith, m, f)

few_shifted : (k r : ℕ) → r + k ≤ 16 → shifted k r ≤ max r 16
few_shifted k r l = omega (arith, l)

module _ (i : Inliner) (admitted : List Bool) (marks : i.admitted.now ≡ admitted) where
  module _ (c : Class) (at : MethodAt) (m : Method) where
    edited : (z : Caller) (chosen : List (Option Callee)) (cells : ℕ) (rows : List Row) → slice_index_or i.admitted.now m.name false ≡ true → IsCallerOf c at m z → HasTried i z cells (length z.body.now.insns) rows chosen
        → MethodStaysBy FewRegisters admitted m (method_by (edit_of (new_of i z chosen)) m)
    edited z chosen cells rows marked is tried = by chosen refl (tried_some i z cells (length z.body.now.insns) rows chosen tried)
      where
        each_few : (n : ℕ) (y : Callee) → chosen_at chosen n ≡ Some y → z.body.now.registers + y.body.now.registers ≤ 16
        each_few n y e = few_of i.known z n y (tried_candidates i z cells (length z.body.now.insns) rows chosen tried n y e)

        few : IsSome chosen → shifted (greatest chosen) z.body.now.registers ≤ max z.body.now.registers 16
        few some = let l = each_few some.place some.callee some.there in few_shifted (greatest chosen) z.body.now.registers (greatest_few z.body.now.registers 16 chosen (omega (arith, l)) each_few)

        by : (l : List (Option Callee)) → chosen ≡ l → (chosen ≡ []) ⊎ IsSome chosen → MethodStaysBy FewRegisters admitted m (method_by (edit_of (new_of i z l)) m)
        by [] e s = method_same_by admitted FewRegisters few_same m
        by (y ∷ ys) e (inl none) = absurd (let j : (y ∷ ys) ≡ [] = sym e ∙ none in cc)
        by (y ∷ ys) e (inr some) = record {
          rest = refl;
          refused = λ not_marked. absurd (true≢false (sym (ap (λ (l : List Bool). slice_index_or l m.name false) (sym marks) ∙ marked) ∙ not_marked));
          registers = subst (λ (o : Option Body). FewRegisters o (Some (spliced_by i z (y ∷ ys)).body)) (sym is.code)
              (subst (λ (l : List (Option Callee)). shifted (greatest l) z.body.now.registers ≤ max z.body.now.registers 16) e (few some), refl);
        }

    one_method : (d e : Done) (rows : List Row) (edit : Option Edit) → LooksAt i c at m d rows edit e → MethodStaysBy FewRegisters admitted m (method_by edit m)
    one_method d _ _ _ (Bare none) = method_same_by admitted FewRegisters few_same m
    one_method d _ _ _ (Barred none) = method_same_by admitted FewRegisters few_same m
    one_method d e rows edit (Looked z _ _ _ marked is looked) =
        subst (λ (x : Option Edit). MethodStaysBy FewRegisters admitted m (method_by x m)) (sym looked.edit) (edited z looked.chosen d.cells rows marked is looked.tried)

  one_class : (k : ℕ) (c : Class) (d e : Done) (rows : List Row) (row : List (Option Edit)) → LooksInClass i k c d rows row e → ClassStaysBy FewRegisters admitted c (class_by row c)
  one_class k c d e rows row looked = record {
    rest = refl;
    fields = λ f s. s;
    methods = λ n s.
        let x = was_there method_by row c.methods (looked_long (LooksAtMethod i (word k) c) c.methods d (length c.methods) rows row e looked) s.0 n s.1 in
        let z = looked_at (LooksAtMethod i (word k) c) c.methods d (length c.methods) rows row e looked s.0 x.old (got_short c.methods s.0 x.old x.stood) x.stood in
        let here = one_method c (record { class = word k; place = word s.0 }) x.old z.before z.behind z.rows z.one z.looked in (
          x.old,
          (
            (s.0, x.stood),
            subst (λ (y : Method). MethodStaysBy FewRegisters admitted x.old y) x.is
                (subst (λ (y : Option Edit). MethodStaysBy FewRegisters admitted x.old (method_by y x.old)) (some_same z.one x.edit (sym z.there ∙ x.edited)) here),
          ),
        );
  }

pub inlined_stays : (p q : Program) (h : Hierarchy) (facts : Facts) (admitted : List Bool) (count : ℕ) (origins : List (List Origin)) (rows : List Row) → IsInlined p h facts admitted q count origins rows → StaysInlined admitted p q
inlined_stays p q h facts admitted count origins rows x = subst (λ (z : Program). StaysInlined admitted p z) (sym x.program) (record {
  rest = refl;
  classes = λ d s.
      let i = x.planned.inliner in
      let w = was_there class_by x.edits p.classes (looked_long (LooksInClass i) p.classes (nothing_done p) (length p.classes) rows x.edits x.last x.planned.looked) s.0 d s.1 in
      let z = looked_at (LooksInClass i) p.classes (nothing_done p) (length p.classes) rows x.edits x.last x.planned.looked s.0 w.old (got_short p.classes s.0 w.old w.stood) w.stood in
      let here = one_class i admitted x.planned.for.marks s.0 w.old z.before z.behind z.rows z.one z.looked in (
        w.old,
        (
          (s.0, w.stood),
          subst (λ (y : Class). ClassStaysBy FewRegisters admitted w.old y) w.is
              (subst (λ (r : List (Option Edit)). ClassStaysBy FewRegisters admitted w.old (class_by r w.old)) (some_same z.one w.edit (sym z.there ∙ w.edited)) here),
        ),
      );
})
