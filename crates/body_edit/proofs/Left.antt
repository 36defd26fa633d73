-- Keeping what is left of a list, in place; and a body that was edited before positions go.
use Rattle.std.proofs.Common.{◌≡◌, ℕ, zero, suc, ◌+◌, ◌<◌, ◌≤◌, Bool, true, false, List, [], ◌∷◌, ◌++◌, min, length, get_or, take, drop, refl, sym, ap, ◌∙◌, inl, inr, add-one, arith}
use Rattle.std.proofs.Math.ListN.{set}
use Rattle.insn_set.specs.declared.form.Insn.{Insn}
use Rattle.insn_set.specs.declared.form.Insn.TheVariants as insn
use Rattle.pass_defs.specs.Thinned.{Stays, Empties, Goes, left, insn_retargeted, insns_left}
use Rattle.pass_defs.specs.Thinned.{Fate as Meant}
use Rattle.body_edit.specs.Fates.{fate_of, fates_of, is_left, edited, all_edited}
use Rattle.body_edit.specs.declared.fate.Fate.{Fate}
use Rattle.body_edit.specs.declared.fate.Fate.TheVariants as fate

pub none_left : {A : Type 0} (xs : List A) → left [] xs ≡ []
none_left [] = refl
none_left (x ∷ xs) = refl

of_none_left : {A : Type 0} (fs : List Meant) → left {A = A} fs [] ≡ []
of_none_left [] = refl
of_none_left (Stays ∷ fs) = refl
of_none_left (Empties ∷ fs) = refl
of_none_left (Goes ∷ fs) = refl

-- one more position that goes
pub left_no : {A : Type 0} (fs : List Fate) (xs : List A) (i : ℕ) (d : Fate) → i < length fs → is_left (fate_of (get_or fs i d)) ≡ false
    → left (fates_of (take (suc i) fs)) xs ≡ left (fates_of (take i fs)) xs
left_no [] xs i d h e = absurd (omega arith)
left_no (fate.Stays ∷ fs) [] zero d h e = refl
left_no (fate.Empties ∷ fs) [] zero d h e = refl
left_no (fate.Goes ∷ fs) [] zero d h e = refl
left_no (fate.Stays ∷ fs) [] (suc i) d h e = refl
left_no (fate.Empties ∷ fs) [] (suc i) d h e = refl
left_no (fate.Goes ∷ fs) [] (suc i) d h e = refl
left_no (fate.Stays ∷ fs) (x ∷ xs) zero d h e = cc
left_no (fate.Empties ∷ fs) (x ∷ xs) zero d h e = cc
left_no (fate.Goes ∷ fs) (x ∷ xs) zero d h e = none_left xs
left_no (fate.Stays ∷ fs) (x ∷ xs) (suc i) d h e = ap (λ l. x ∷ l) (left_no fs xs i d (omega arith) e)
left_no (fate.Empties ∷ fs) (x ∷ xs) (suc i) d h e = ap (λ l. x ∷ l) (left_no fs xs i d (omega arith) e)
left_no (fate.Goes ∷ fs) (x ∷ xs) (suc i) d h e = left_no fs xs i d (omega arith) e

-- one more position that is left
pub left_yes : {A : Type 0} (fs : List Fate) (xs : List A) (i : ℕ) (d : Fate) (z : A) → i < length fs → i < length xs → is_left (fate_of (get_or fs i d)) ≡ true
    → left (fates_of (take (suc i) fs)) xs ≡ left (fates_of (take i fs)) xs ++ get_or xs i z ∷ []
left_yes [] xs i d z h l e = absurd (omega arith)
left_yes (f ∷ fs) [] i d z h l e = absurd (omega arith)
left_yes (fate.Stays ∷ fs) (x ∷ xs) zero d z h l e = ap (λ l. x ∷ l) (none_left xs)
left_yes (fate.Empties ∷ fs) (x ∷ xs) zero d z h l e = ap (λ l. x ∷ l) (none_left xs)
left_yes (fate.Goes ∷ fs) (x ∷ xs) zero d z h l e = cc
left_yes (fate.Stays ∷ fs) (x ∷ xs) (suc i) d z h l e = ap (λ l. x ∷ l) (left_yes fs xs i d z (omega arith) (omega arith) e)
left_yes (fate.Empties ∷ fs) (x ∷ xs) (suc i) d z h l e = ap (λ l. x ∷ l) (left_yes fs xs i d z (omega arith) (omega arith) e)
left_yes (fate.Goes ∷ fs) (x ∷ xs) (suc i) d z h l e = left_yes fs xs i d z (omega arith) (omega arith) e

pub left_end : {A : Type 0} (fs : List Fate) (xs : List A) (i : ℕ) → min (length fs) (length xs) ≤ i → left (fates_of (take i fs)) xs ≡ left (fates_of fs) xs
left_end [] xs zero h = refl
left_end [] xs (suc i) h = refl
left_end (fate.Stays ∷ fs) [] zero h = refl
left_end (fate.Empties ∷ fs) [] zero h = refl
left_end (fate.Goes ∷ fs) [] zero h = refl
left_end (fate.Stays ∷ fs) [] (suc i) h = refl
left_end (fate.Empties ∷ fs) [] (suc i) h = refl
left_end (fate.Goes ∷ fs) [] (suc i) h = refl
left_end (f ∷ fs) (x ∷ xs) zero h = absurd (omega arith)
left_end (fate.Stays ∷ fs) (x ∷ xs) (suc i) h = ap (λ l. x ∷ l) (left_end fs xs i (omega arith))
left_end (fate.Empties ∷ fs) (x ∷ xs) (suc i) h = ap (λ l. x ∷ l) (left_end fs xs i (omega arith))
left_end (fate.Goes ∷ fs) (x ∷ xs) (suc i) h = left_end fs xs i (omega arith)

-- ---- a body

pub edited_left : (at : ℕ → ℕ) (fs : List Meant) (is : List Insn) → left fs (all_edited at fs is) ≡ insns_left at fs is
edited_left at [] [] = refl
edited_left at [] (i ∷ is) = refl
edited_left at (Stays ∷ fs) [] = refl
edited_left at (Empties ∷ fs) [] = refl
edited_left at (Goes ∷ fs) [] = refl
edited_left at (Stays ∷ fs) (i ∷ is) = ap (λ l. insn_retargeted at i ∷ l) (edited_left at fs is)
edited_left at (Empties ∷ fs) (i ∷ is) = ap (λ l. insn.Nop ∷ l) (edited_left at fs is)
edited_left at (Goes ∷ fs) (i ∷ is) = edited_left at fs is

set_next : (at : ℕ → ℕ) (fs : List Fate) (is : List Insn) (i : ℕ) (d : Fate) (z : Insn) → i < length fs → i < length is
    → set (all_edited at (fates_of (take i fs)) is) i (edited at (fate_of (get_or fs i d)) (get_or (all_edited at (fates_of (take i fs)) is) i z)) ≡ all_edited at (fates_of (take (suc i) fs)) is
set_next at [] is i d z h l = absurd (omega arith)
set_next at (f ∷ fs) [] i d z h l = absurd (omega arith)
set_next at (f ∷ fs) (x ∷ xs) zero d z h l = refl
set_next at (f ∷ fs) (x ∷ xs) (suc i) d z h l = ap (λ l. edited at (fate_of f) x ∷ l) (set_next at fs xs i d z (omega arith) (omega arith))

-- one more instruction is edited
pub edited_more : (at : ℕ → ℕ) (fs : List Fate) (is ys : List Insn) (i : ℕ) (d : Fate) (z y : Insn) → i < length fs → i < length is → ys ≡ all_edited at (fates_of (take i fs)) is
    → y ≡ edited at (fate_of (get_or fs i d)) (get_or ys i z) → set ys i y ≡ all_edited at (fates_of (take (i + 1) fs)) is
edited_more at fs is ys i d z y h l e r = rw (add-one, r, e) (set_next at fs is i d z h l)
