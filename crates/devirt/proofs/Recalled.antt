-- What is written over instructions, one more at a time.
use Rattle.std.proofs.Common.{◌≡◌, ℕ, zero, suc, ◌+◌, ◌<◌, ◌≤◌, Bool, false, List, [], ◌∷◌, ◌++◌, get_or, length, take, Option, Some, None, refl, sym, ap, ◌∙◌, subst, arith, append_assoc, append-nil}
use Rattle.std.specs.Prelude.{All, IfSome, slice_get}
use Rattle.std.specs.List.{list_any}
use Rattle.std.proofs.lemmas.List.{take_more}
use Rattle.std.proofs.lemmas.List.Elements.{All-push}
use Rattle.lemmas.proofs.Bools.{none_or, or_false_left, or_false_right}
use Rattle.insn_set.specs.declared.form.Insn.{Insn}
use Rattle.program_model.specs.declared.body.Body.{Body}
use Rattle.program_model.specs.declared.program.Program.{Program}
use Rattle.facts.specs.declared.facts.Facts.{Facts}
use Rattle.verify.specs.Typings.{Table}
use Rattle.rewrite_pass.specs.declared.edit.Edit.{Edit}
use Rattle.devirt.specs.Rebound.{IsRecalled, IsRecalledAt, edit_at, edits_from, rebound_at}

pub recalled_more : (b : Body) (n : ℕ) (i : Insn) (found : Option Insn) (old new : List Edit) → slice_get b.insns n ≡ Some i → IfSome found (IsRecalled i) → All (IsRecalledAt b) old → new ≡ old ++ edit_at n found → All (IsRecalledAt b) new
recalled_more b n i None old new there r a e = subst (All (IsRecalledAt b)) (sym (e ∙ append-nil old)) a
recalled_more b n i (Some g) old new there r a e = subst (All (IsRecalledAt b)) (sym e) (All-push (IsRecalledAt b) old (record { position = n; insn = g }) a (record { form = i; there = there; recalled = r }))

take_long : {A : Type 0} (n : ℕ) (xs : List A) → n ≤ length xs → length (take n xs) ≡ n
take_long zero xs l = refl
take_long (suc n) [] l = absurd (omega (arith, l))
take_long (suc n) (x ∷ xs) l = ap suc (take_long n xs (omega (arith, l)))

plus_none : (n : ℕ) → n ≡ n + 0
plus_none n = omega arith

plus_one : (k n : ℕ) → k + 1 + n ≡ k + suc n
plus_one k n = omega arith

module _ (p : Program) (facts : Facts) (class method : ℕ) (x : Table) where
  abbrev at : ℕ → Insn → List Edit
  at n i = edit_at n (rebound_at p facts class method x n i)

  from_snoc : (xs : List Insn) (k : ℕ) (i : Insn) → edits_from p facts class method x k (xs ++ i ∷ []) ≡ edits_from p facts class method x k xs ++ at (k + length xs) i
  from_snoc [] k i = append-nil (at k i) ∙ ap (λ n. at n i) (plus_none k)
  from_snoc (y ∷ xs) k i = ap (λ l. at k y ++ l) (from_snoc xs (k + 1) i ∙ ap (λ n. edits_from p facts class method x (k + 1) xs ++ at n i) (plus_one k (length xs)))
      ∙ sym (append_assoc (at k y) (edits_from p facts class method x (k + 1) xs) (at (k + suc (length xs)) i))

  -- one instruction more
  pub from_more : (is : List Insn) (n : ℕ) (i : Insn) (old new : List Edit) → n < length is → i ≡ get_or is n i → old ≡ edits_from p facts class method x 0 (take n is) → new ≡ old ++ at n i
      → new ≡ edits_from p facts class method x 0 (take (n + 1) is)
  from_more is n i old new l g o e =
      e ∙ (ap (λ l. l ++ at n i) o ∙ sym (ap (edits_from p facts class method x 0) (take_more is n i l ∙ ap (λ y. take n is ++ y ∷ []) (sym g))
      ∙ (from_snoc (take n is) 0 i ∙ ap (λ m. edits_from p facts class method x 0 (take n is) ++ at m i) (zero_plus (length (take n is)) ∙ take_long n is (omega (arith, l))))))
    where
      zero_plus : (n : ℕ) → 0 + n ≡ n
      zero_plus n = omega arith

-- ---- tests over the front of a list

none_snoc : {A : Type 0} (t : A → Bool) (xs : List A) (y : A) → list_any t xs ≡ false → t y ≡ false → list_any t (xs ++ y ∷ []) ≡ false
none_snoc t [] y e f = none_or (t y) false f refl
none_snoc t (x ∷ xs) y e f = none_or (t x) (list_any t (xs ++ y ∷ [])) (or_false_left (t x) (list_any t xs) e) (none_snoc t xs y (or_false_right (t x) (list_any t xs) e) f)

pub none_next : {A : Type 0} (t : A → Bool) (xs : List A) (i : ℕ) (x : A) → i < length xs → x ≡ get_or xs i x → list_any t (take i xs) ≡ false → t x ≡ false → list_any t (take (i + 1) xs) ≡ false
none_next t xs i x l g e f = ap (list_any t) (take_more xs i x l ∙ ap (λ y. take i xs ++ y ∷ []) (sym g)) ∙ none_snoc t (take i xs) x e f
