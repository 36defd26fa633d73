-- The joins that are left, and what is lowered where none is spent.
use Rattle.std.proofs.Common.{◌≡◌, ℕ, ◌-◌, ◌<◌, Bool, true, false, List, length, refl, sym, ap, ◌∙◌, arith}
use Rattle.std.specs.Prelude.{Contains, slice_index_or, ◌||◌}
use Rattle.std.specs.List.{sum_by}
use Rattle.std.proofs.Math.ListN.{set, length-set}
use Rattle.std.proofs.lemmas.List.Sums.{sum_by-set}
use Rattle.std.proofs.lemmas.List.{get_or_default}
use Rattle.fixpoint.specs.Rising.{Waits, Spends, NoneWaits, one_if, itself, weight}

pub none_waits : (list : List ℕ) (w : List Bool) → NoneWaits list w → (n : ℕ) → Contains list n → Waits w n → ⊥
none_waits list w clean n c h = let f : false ≡ true = sym (clean c.0 c.1) ∙ ap (λ i. slice_index_or w i false) (get_or_default list c.0 0 n c.1 ∙ c.2) ∙ h in absurd (cc)

module _ {S : Type 0} (rank : S → ℕ) where
  pub spends_none : (t : List S) (w : List Bool) (p : List ℕ) → Spends rank t w p t w p false
  spends_none t w p = record { long = refl; no_rise = omega arith; spent = λ q. absurd (cc); falls = λ q. omega arith }

  pub spends_on : (t t' t'' : List S) (w w' w'' : List Bool) (p p' p'' : List ℕ) (a b : Bool) → Spends rank t w p t' w' p' a → Spends rank t' w' p' t'' w'' p'' b → Spends rank t w p t'' w'' p'' (a || b)
  spends_on t t' t'' w w' w'' p p' p'' true b x y = record {
    long = y.long ∙ x.long;
    no_rise = omega (arith, x.no_rise, y.no_rise);
    spent = λ q. let e = x.spent refl in omega (arith, e, y.no_rise);
    falls = λ q. absurd (cc);
  }
  spends_on t t' t'' w w' w'' p p' p'' false b x y = record {
    long = y.long ∙ x.long;
    no_rise = omega (arith, x.no_rise, y.no_rise);
    spent = λ q. let e = y.spent q in omega (arith, e, x.no_rise);
    falls = λ q. let e = x.falls refl in let f = y.falls q in omega (arith, e, f);
  }

  pub spends_same : (t t' : List S) (w w' : List Bool) (p : List ℕ) → (t' ≡ t) × (w' ≡ w) → Spends rank t w p t' w' p false
  spends_same t t' w w' p e = record {
    long = refl;
    no_rise = omega arith;
    spent = λ q. absurd (cc);
    falls = λ q. let r = ap (sum_by rank) e.0 in let s = ap (sum_by one_if) e.1 in omega (arith, r, s);
  }

  pub spends_widened : (t t' : List S) (w w' : List Bool) (p : List ℕ) (n : ℕ) → n < length w → w' ≡ set w n true → sum_by rank t' < sum_by rank t → Spends rank t w p t' w' p false
  spends_widened t t' w w' p n lt q less = record {
    long = refl;
    no_rise = omega arith;
    spent = λ f. absurd (cc);
    falls = λ f. let s = ap (sum_by one_if) q in let e = sum_by-set one_if w n true false lt in omega (arith, less, s, e);
  }

  pub spends_joined : (t t' : List S) (w w' : List Bool) (p p' : List ℕ) (n left : ℕ) → n < length p → left ≡ slice_index_or p n 0 → 0 < left → p' ≡ set p n (left - 1) → Spends rank t w p t' w' p' true
  spends_joined t t' w w' p p' n left lt q pos e = record {
    long = ap length e ∙ length-set p n (left - 1);
    no_rise = omega (arith, fewer);
    spent = λ f. fewer;
    falls = λ f. absurd (cc);
  }
    where
      fewer : sum_by itself p' < sum_by itself p
      fewer = let s = ap (sum_by itself) e in let a = sum_by-set itself p n (left - 1) 0 lt in omega (arith, s, a, q, pos)

  -- a visit that spends no join lowers the weight
  pub visit_falls : (t t' : List S) (w w' : List Bool) (p p' : List ℕ) (n : ℕ) (joined : Bool) → joined ≡ false → n < length w → Waits w n → Spends rank t (set w n false) p t' w' p' joined → weight rank t' w' < weight rank t w
  visit_falls t t' w w' p p' n joined not lt h s =
      let r = s.falls not in
      let e = sum_by-set one_if w n false false lt in
      let i : one_if (slice_index_or w n false) ≡ 1 = ap one_if h in
      omega (arith, r, e, i)
