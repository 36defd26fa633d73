-- What a write leaves in the other registers.
use Rattle.std.proofs.Common.{◌≡◌, ℕ, zero, suc, ◌+◌, ◌-◌, ◌<◌, Bool, true, false, true≢false, ◌⊎◌, inl, inr, nat_eq, List, length, refl, sym, ap, ◌∙◌, subst, arith, get_or-set_other, get_or-set_same}
use Rattle.std.specs.Prelude.{◌||◌, slice_set, if◌then◌else◌}
use Rattle.std.proofs.Math.ListN.{length-set}
use Rattle.std.proofs.lemmas.Bool.{eq-eqb}
use Rattle.lemmas.proofs.Bools.{clash, or_left, or_right, untrue}
use Rattle.insn_set.specs.Registers.{in_operand}
use Rattle.verify.specs.declared.kinds.Kind.{Kind}
use Rattle.verify.specs.declared.kinds.Kind.TheVariants.{Undefined, WideLow, WideHigh}
use Rattle.verify.specs.Frames.{kind_at, cleared, split, written_one, written_pair, written_kinds}
use Rattle.verify.specs.Kinds.{same_kind}

pub set_other : (ks : List Kind) (r q : ℕ) (k : Kind) → (q ≡ r → ⊥) → kind_at (slice_set ks r k) q ≡ kind_at ks q
set_other ks r q k n = get_or-set_other ks r q k Undefined n

pub set_here : (ks : List Kind) (r : ℕ) (k : Kind) → r < length ks → kind_at (slice_set ks r k) r ≡ k
set_here ks r k lt = get_or-set_same ks r k Undefined lt

pub cleared_at : (x : ℕ) (half : Kind) (ks : List Kind) (q : ℕ) → (q ≡ x → same_kind (kind_at ks q) half ≡ false) → kind_at (cleared x half ks) q ≡ kind_at ks q
cleared_at x half ks q h = by (same_kind (kind_at ks x) half) refl
  where
    by : (b : Bool) → same_kind (kind_at ks x) half ≡ b → kind_at (if b then slice_set ks x Undefined else ks) q ≡ kind_at ks q
    by false e = refl
    by true e = set_other ks x q Undefined (λ i. clash (same_kind (kind_at ks x) half) e (subst (λ z. same_kind (kind_at ks z) half ≡ false) i (h i)))

cleared_long : (x : ℕ) (half : Kind) (ks : List Kind) → length (cleared x half ks) ≡ length ks
cleared_long x half ks = by (same_kind (kind_at ks x) half)
  where
    by : (b : Bool) → length (if b then slice_set ks x Undefined else ks) ≡ length ks
    by true = length-set ks x Undefined
    by false = refl

split_long : (r : ℕ) (ks : List Kind) → length (split r ks) ≡ length ks
split_long r ks = cleared_long (r - 1) WideLow (cleared (r + 1) WideHigh ks) ∙ cleared_long (r + 1) WideHigh ks

-- a register that a write to this one doesn't clear
pub record IsBy (r : ℕ) (ks : List Kind) (q : ℕ) : Type 0 where
  pub low : q ≡ r - 1 → same_kind (kind_at ks q) WideLow ≡ false
  pub high : q ≡ r + 1 → same_kind (kind_at ks q) WideHigh ≡ false

pub split_at : (r : ℕ) (ks : List Kind) (q : ℕ) → IsBy r ks q → kind_at (split r ks) q ≡ kind_at ks q
split_at r ks q h =
    let e = cleared_at (r + 1) WideHigh ks q h.high in
    cleared_at (r - 1) WideLow (cleared (r + 1) WideHigh ks) q (λ i. ap (λ k. same_kind k WideLow) e ∙ h.low i) ∙ e

pub one_at : (r : ℕ) (k : Kind) (ks : List Kind) (q : ℕ) → (q ≡ r → ⊥) → IsBy r ks q → kind_at (written_one r k ks) q ≡ kind_at ks q
one_at r k ks q n h = set_other (split r ks) r q k n ∙ split_at r ks q h

pub one_here : (r : ℕ) (k : Kind) (ks : List Kind) → r < length ks → kind_at (written_one r k ks) r ≡ k
one_here r k ks lt = let e = split_long r ks in set_here (split r ks) r k (omega (arith, lt, e))

pub pair_at : (r : ℕ) (ks : List Kind) (q : ℕ) → (q ≡ r → ⊥) → (q ≡ r + 1 → ⊥) → IsBy r ks q → IsBy (r + 1) ks q → kind_at (written_pair r ks) q ≡ kind_at ks q
pair_at r ks q n m h g =
    let e = split_at r ks q h in
    set_other (slice_set (split (r + 1) (split r ks)) r WideLow) (r + 1) q WideHigh m
    ∙ set_other (split (r + 1) (split r ks)) r q WideLow n
    ∙ split_at (r + 1) (split r ks) q (record { low = λ i. ap (λ k. same_kind k WideLow) e ∙ g.low i; high = λ i. ap (λ k. same_kind k WideHigh) e ∙ g.high i })
    ∙ e

pub pair_low : (r : ℕ) (ks : List Kind) → r < length ks → kind_at (written_pair r ks) r ≡ WideLow
pair_low r ks lt =
    let e = split_long r ks in
    let f = split_long (r + 1) (split r ks) in
    set_other (slice_set (split (r + 1) (split r ks)) r WideLow) (r + 1) r WideHigh (λ i. omega (arith, i)) ∙ set_here (split (r + 1) (split r ks)) r WideLow (omega (arith, lt, e, f))

pub pair_high : (r : ℕ) (ks : List Kind) → r + 1 < length ks → kind_at (written_pair r ks) (r + 1) ≡ WideHigh
pair_high r ks lt =
    let e = split_long r ks in
    let f = split_long (r + 1) (split r ks) in
    let g = length-set (split (r + 1) (split r ks)) r WideLow in
    set_here (slice_set (split (r + 1) (split r ks)) r WideLow) (r + 1) WideHigh (omega (arith, lt, e, f, g))

-- ---- by the width of what is written

abbrev pub is_low : Kind → Bool
is_low WideLow = true
is_low k = false

pub pair_is : (r : ℕ) (k : Kind) (ks : List Kind) → is_low k ≡ true → written_kinds r k ks ≡ written_pair r ks
pair_is r WideLow ks e = refl
pair_is r k ks e = absurd (true≢false (sym e))

pub one_is : (r : ℕ) (k : Kind) (ks : List Kind) → is_low k ≡ false → written_kinds r k ks ≡ written_one r k ks
one_is r WideLow ks e = absurd (true≢false e)
one_is r k ks e = refl

-- A register that a form doesn't write, by a test of what it writes. If it holds a half of a wide, the other half isn't
-- written either.
pub record IsLeft (w : ℕ → Bool) (ks : List Kind) (q : ℕ) : Type 0 where
  pub here : w q ≡ false
  pub low : same_kind (kind_at ks q) WideLow ≡ true → w (q + 1) ≡ false
  pub high : same_kind (kind_at ks q) WideHigh ≡ true → w (q - 1) ≡ false

module _ (wide : Bool) (r : ℕ) (ks : List Kind) (q : ℕ) (h : IsLeft (in_operand wide r) ks q) where
  first_in : (v : Bool) (y : ℕ) → y ≡ r → in_operand v r y ≡ true
  first_in true y e = or_left (nat_eq y r) (nat_eq y (r + 1)) (eq-eqb y r e)
  first_in false y e = eq-eqb y r e

  second_in : (y : ℕ) → y ≡ r + 1 → in_operand true r y ≡ true
  second_in y e = or_right (nat_eq y r) (nat_eq y (r + 1)) (eq-eqb y (r + 1) e)

  not_first : q ≡ r → ⊥
  not_first e = clash (in_operand wide r q) (first_in wide q e) h.here

  by_first : IsBy r ks q
  by_first = record {
    low = λ e. untrue (same_kind (kind_at ks q) WideLow) (λ z. low_clash e (h.low z));
    high = λ e. untrue (same_kind (kind_at ks q) WideHigh) (λ z. clash (in_operand wide r (q - 1)) (first_in wide (q - 1) (omega (arith, e))) (h.high z));
  }
    where
      zero_or : (x y : ℕ) → y ≡ x - 1 → (y + 1 ≡ x) ⊎ (y ≡ x)
      zero_or zero y e = inr (omega (arith, e))
      zero_or (suc x) y e = inl (omega (arith, e))

      low_clash : q ≡ r - 1 → in_operand wide r (q + 1) ≡ false → ⊥
      low_clash e f = elim (zero_or r q e) [ inl i ↦ clash (in_operand wide r (q + 1)) (first_in wide (q + 1) i) f | inr i ↦ not_first i ]

-- what is written as wide as the test says
pub written_at : (wide : Bool) (r : ℕ) (k : Kind) (ks : List Kind) (q : ℕ) → is_low k ≡ wide → IsLeft (in_operand wide r) ks q → kind_at (written_kinds r k ks) q ≡ kind_at ks q
written_at false r k ks q w h = ap (λ l. kind_at l q) (one_is r k ks w) ∙ one_at r k ks q (not_first false r ks q h) (by_first false r ks q h)
written_at true r k ks q w h =
    ap (λ l. kind_at l q) (pair_is r k ks w)
    ∙ pair_at r ks q (not_first true r ks q h) (λ e. clash (in_operand true r q) (second_in true r ks q h q e) h.here) (by_first true r ks q h) (record {
      low = λ e. absurd (not_first true r ks q h (omega (arith, e)));
      high = λ e. untrue (same_kind (kind_at ks q) WideHigh) (λ z. clash (in_operand true r (q - 1)) (second_in true r ks q h (q - 1) (omega (arith, e))) (h.high z));
    })
