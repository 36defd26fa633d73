-- Where a class has a kept virtual method there is a class, and tests along a list of classes.
use Rattle.std.proofs.Common.{◌≡◌, ℕ, zero, suc, ◌+◌, ◌<◌, ◌≤◌, Bool, true, false, true≢false, List, [], ◌∷◌, take, get_or, length, Option, Some, None, refl, sym, ap, subst, ◌∙◌, arith}
use Rattle.std.specs.Prelude.{◌&&◌, ◌||◌, slice_get}
use Rattle.std.specs.List.{list_any}
use Rattle.std.proofs.lemmas.List.{take_all}
use Rattle.program_model.specs.declared.program.Class.{Class}
use Rattle.program_model.specs.declared.program.Program.{Program}
use Rattle.program_model.specs.declared.pass.Outside.{Outside}
use Rattle.class_defs.specs.Members.{method_of_class, virtual_only}
use Rattle.dalvik_defs.specs.Names.{Text}
use Rattle.dalvik_defs.specs.Naming.{type_at, named}
use Rattle.dalvik_defs.specs.Under.{is_under}
use Rattle.dalvik_defs.specs.declared.tables.Framework.{Framework}
use Rattle.dalvik_lookups.specs.Reached.{is_kept_at, keeps_virtual, keeps_over, text_of_class}

pub keeps_class : (p : Program) (o : Outside) (name proto c : ℕ) → keeps_virtual p o name proto c ≡ true → (k : Class) × (slice_get p.classes c ≡ Some k)
keeps_class p o name proto c h = by (slice_get p.classes c) refl
  where
    by : (w : Option Class) → slice_get p.classes c ≡ w → (k : Class) × (slice_get p.classes c ≡ Some k)
    by None e = absurd (true≢false (sym h ∙ ap (λ (w : Option Class). is_kept_at p o (virtual_only p (method_of_class p name proto c w))) e))
    by (Some k) e = (k, e)

pub over_class : (p : Program) (f : Framework) (o : Outside) (name proto : ℕ) (t u : Text) (c : ℕ) (k : Class) → slice_get p.classes c ≡ Some k → u ≡ type_at p k.name → keeps_virtual p o name proto c ≡ true → is_under (named p) f t u ≡ keeps_over p f o name proto t c
over_class p f o name proto t u c k e x h =
    ap (is_under (named p) f t) (x ∙ sym (ap (text_of_class p) e)) ∙ sym (ap (λ b. b && is_under (named p) f t (text_of_class p (slice_get p.classes c))) h)

pub not_over : (p : Program) (f : Framework) (o : Outside) (name proto : ℕ) (t : Text) (c : ℕ) → keeps_virtual p o name proto c ≡ false → false ≡ keeps_over p f o name proto t c
not_over p f o name proto t c h = sym (ap (λ b. b && is_under (named p) f t (text_of_class p (slice_get p.classes c))) h)

pub any_here : (t : ℕ → Bool) (xs : List ℕ) (i : ℕ) → i < length xs → t (get_or xs i 0) ≡ true → true ≡ list_any t xs
any_here t [] i lt e = absurd (omega (arith, lt))
any_here t (x ∷ xs) zero lt e = sym (ap (λ b. b || list_any t xs) e)
any_here t (x ∷ xs) (suc i) lt e = full (t x) (list_any t xs) (any_here t xs i (omega (arith, lt)) e)
  where
    full : (a b : Bool) → true ≡ b → true ≡ (a || b)
    full true b g = refl
    full false b g = g

pub any_before : (t : ℕ → Bool) (xs : List ℕ) (i : ℕ) → i < length xs → list_any t (take i xs) ≡ false → t (get_or xs i 0) ≡ false → list_any t (take (i + 1) xs) ≡ false
any_before t [] i lt h e = absurd (omega (arith, lt))
any_before t (x ∷ xs) zero lt h e = ap (λ b. b || false) e
any_before t (x ∷ xs) (suc i) lt h e =
    let n : suc i + 1 ≡ suc (i + 1) = omega arith in
    subst (λ k. list_any t (take k (x ∷ xs)) ≡ false) (sym n) (by_test (λ k. any_before t xs i (omega (arith, lt)) k e) (t x) refl h)
  where
    by_test : (list_any t (take i xs) ≡ false → list_any t (take (i + 1) xs) ≡ false) → (b : Bool) → t x ≡ b → (b || list_any t (take i xs)) ≡ false → (t x || list_any t (take (i + 1) xs)) ≡ false
    by_test more true g k = absurd (true≢false k)
    by_test more false g k = ap (λ b. b || list_any t (take (i + 1) xs)) g ∙ more k

pub any_none : (t : ℕ → Bool) (xs : List ℕ) (i : ℕ) → length xs ≤ i → list_any t (take i xs) ≡ false → false ≡ list_any t xs
any_none t xs i le h = sym (ap (list_any t) (sym (take_all i xs le)) ∙ h)
