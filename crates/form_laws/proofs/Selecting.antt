-- The kinds that are selected for other registers: they are those that are held, and what is held is at or below them.
use Rattle.std.proofs.Common.{◌≡◌, ℕ, zero, suc, ◌+◌, ◌-◌, ◌<◌, Bool, true, false, List, [], ◌∷◌, length, Option, Some, None, refl, sym, ap, ap₂, ◌∙◌, subst, inl, inr, arith, eqb-true, eq-eqb}
use Rattle.std.specs.Prelude.{◌⊎◌, ◌&&◌, ◌||◌, nat_eq, if◌then◌else◌}
use Rattle.lemmas.proofs.Bools.{or_left}
use Rattle.dalvik_defs.specs.declared.program.NamedProgram.{NamedProgram}
use Rattle.pass_defs.specs.Kinds.{Kind, Undefined, Low, High, kind_eq, is_below}
use Rattle.pass_defs.specs.Registers.{kind_at, all_below}
use Rattle.pass_defs.proofs.Writes.{left_true, right_true, both_true}
use Rattle.form_laws.proofs.Uses.{or_right}
use Rattle.form_laws.proofs.Asking.{low_is, high_is}
use Rattle.form_laws.proofs.Onward.{clash}
use Rattle.form_laws.proofs.Operands.{either}
use Rattle.form_laws.specs.Kinds.{is_whole, Held}
use Rattle.form_laws.specs.TypedRegisters.{is_pair, is_kept, sought, kind_or, selected, listed}
use Rattle.form_laws.proofs.Held.{is_known, whole_known, same_or}

-- ---- kinds

module _ (p : NamedProgram) where
  below_nothing : (k : Kind) → is_below p k Undefined ≡ true
  below_nothing Undefined = refl
  below_nothing k = refl

  below_low : (k : Kind) → is_below p k Low ≡ true → k ≡ Low
  below_low Low e = refl
  below_low k e = clash false e refl

  below_high : (k : Kind) → is_below p k High ≡ true → k ≡ High
  below_high High e = refl
  below_high k e = clash false e refl

  -- what is at or below a whole kind is one
  below_whole : (k l : Kind) → is_below p k l ≡ true → is_whole l ≡ true → is_whole k ≡ true
  below_whole Undefined Undefined e h = clash false h refl
  below_whole Undefined Low e h = clash false h refl
  below_whole Undefined High e h = clash false h refl
  below_whole Undefined l e h = clash false e refl
  below_whole Low Undefined e h = clash false h refl
  below_whole Low Low e h = clash false h refl
  below_whole Low High e h = clash false h refl
  below_whole Low l e h = clash false e refl
  below_whole High Undefined e h = clash false h refl
  below_whole High Low e h = clash false h refl
  below_whole High High e h = clash false h refl
  below_whole High l e h = clash false e refl
  below_whole k l e h = refl

  -- ---- lists of kinds

  pub each_below : (ks ls : List Kind) (r : ℕ) → all_below p ks ls ≡ true → is_below p (kind_at ks r) (kind_at ls r) ≡ true
  each_below [] [] r e = refl
  each_below [] (l ∷ ls) r e = clash false e refl
  each_below (k ∷ ks) [] r e = clash false e refl
  each_below (k ∷ ks) (l ∷ ls) zero e = left_true (is_below p k l) (all_below p ks ls) e
  each_below (k ∷ ks) (l ∷ ls) (suc r) e = each_below ks ls r (right_true (is_below p k l) (all_below p ks ls) e)

  pub as_long : (ks ls : List Kind) → all_below p ks ls ≡ true → length ls ≡ length ks
  as_long [] [] e = refl
  as_long [] (l ∷ ls) e = clash false e refl
  as_long (k ∷ ks) [] e = clash false e refl
  as_long (k ∷ ks) (l ∷ ls) e = ap suc (as_long ks ls (right_true (is_below p k l) (all_below p ks ls) e))

  from_each : (ks ls : List Kind) → length ls ≡ length ks → ((r : ℕ) → r < length ks → is_below p (kind_at ks r) (kind_at ls r) ≡ true) → all_below p ks ls ≡ true
  from_each [] [] e h = refl
  from_each [] (l ∷ ls) e h = absurd (omega (arith, e))
  from_each (k ∷ ks) [] e h = absurd (omega (arith, e))
  from_each (k ∷ ks) (l ∷ ls) e h = both_true (is_below p k l) (all_below p ks ls) (h 0 (omega arith)) (from_each ks ls (omega (arith, e)) (λ r lt. h (suc r) (omega (arith, lt))))

pub known_below : (ks : List Kind) (o : ℕ) → is_known (kind_at ks o) ≡ true → o < length ks
known_below [] o e = clash false e refl
known_below (k ∷ ks) zero e = omega arith
known_below (k ∷ ks) (suc o) e = let h = known_below ks o e in omega (arith, h)

pub listed_long : (n at : ℕ) (kind : ℕ → Kind) → length (listed n at kind) ≡ n
listed_long zero at kind = refl
listed_long (suc n) at kind = ap suc (listed_long n (at + 1) kind)

listed_at : (n at i : ℕ) (kind : ℕ → Kind) → i < n → kind_at (listed n at kind) i ≡ kind (at + i)
listed_at zero at i kind lt = absurd (omega (arith, lt))
listed_at (suc n) at zero kind lt = ap kind (omega arith)
listed_at (suc n) at (suc i) kind lt = listed_at n (at + 1) i kind (omega (arith, lt)) ∙ ap kind (omega arith)

-- ---- a number that passes a test

sought_passes : (n : ℕ) (test : ℕ → Bool) (o : ℕ) → sought n test ≡ Some o → test o ≡ true
sought_passes zero test o e = clash true refl (ap (λ o. elim o as (λ o. Bool) [ Some y ↦ false | None ↦ true ]) e)
sought_passes (suc k) test o e = by (sought_passes k test o) (test k) refl e
  where
    by : (sought k test ≡ Some o → test o ≡ true) → (b : Bool) → test k ≡ b → (if b then Some k else sought k test) ≡ Some o → test o ≡ true
    by more true i e = ap test (sym (ap (λ x. elim x as (λ x. ℕ) [ Some y ↦ y | None ↦ k ]) e)) ∙ i
    by more false i e = more e

below : (o k : ℕ) → o < suc k → (o ≡ k → ⊥) → o < k
below o zero lt ne = absurd (ne (omega (arith, lt)))
below zero (suc k) lt ne = omega arith
below (suc o) (suc k) lt ne = let h = below o k (omega (arith, lt)) (λ e. ne (ap suc e)) in omega (arith, h)

sought_finds : (n : ℕ) (test : ℕ → Bool) (o : ℕ) → o < n → test o ≡ true → (x : ℕ) × (sought n test ≡ Some x)
sought_finds zero test o lt h = absurd (omega (arith, lt))
sought_finds (suc k) test o lt h = by (λ l. sought_finds k test o l h) (test k) refl
  where
    at : test k ≡ false → o < k
    at i = past (same_or o k)
      where
        past : (o ≡ k) ⊎ (o ≡ k → ⊥) → o < k
        past (inl e) = clash (test o) h (ap test e ∙ i)
        past (inr ne) = below o k lt ne

    by : (o < k → (x : ℕ) × (sought k test ≡ Some x)) → (b : Bool) → test k ≡ b → (x : ℕ) × ((if b then Some k else sought k test) ≡ Some x)
    by more true i = (k, refl)
    by more false i = more (at i)

-- ---- what is selected

module _ (new : ℕ → ℕ) (live : ℕ → Bool) (ks : List Kind) where
  -- live registers of one name are one
  abbrev pub Unique : Type 0
  Unique = (o q : ℕ) → live o ≡ true → live q ≡ true → is_known (kind_at ks o) ≡ true → is_known (kind_at ks q) ≡ true → new o ≡ new q → o ≡ q

  pub record IsPair (q : ℕ) : Type 0 where
    pub first : live q ≡ true
    pub second : live (q + 1) ≡ true
    pub low : kind_at ks q ≡ Low
    pub high : kind_at ks (q + 1) ≡ High
    pub side : new (q + 1) ≡ new q + 1

  pair_parts : (q : ℕ) → is_pair new live ks q ≡ true → IsPair q
  pair_parts q e =
      let l = left_true (live q && live (q + 1)) (kind_eq (kind_at ks q) Low && (kind_eq (kind_at ks (q + 1)) High && nat_eq (new (q + 1)) (new q + 1))) e in
      let k = right_true (live q && live (q + 1)) (kind_eq (kind_at ks q) Low && (kind_eq (kind_at ks (q + 1)) High && nat_eq (new (q + 1)) (new q + 1))) e in
      let h = right_true (kind_eq (kind_at ks q) Low) (kind_eq (kind_at ks (q + 1)) High && nat_eq (new (q + 1)) (new q + 1)) k in
      record {
        first = left_true (live q) (live (q + 1)) l;
        second = right_true (live q) (live (q + 1)) l;
        low = low_is (kind_at ks q) (left_true (kind_eq (kind_at ks q) Low) (kind_eq (kind_at ks (q + 1)) High && nat_eq (new (q + 1)) (new q + 1)) k);
        high = high_is (kind_at ks (q + 1)) (left_true (kind_eq (kind_at ks (q + 1)) High) (nat_eq (new (q + 1)) (new q + 1)) h);
        side = eqb-true (new (q + 1)) (new q + 1) (right_true (kind_eq (kind_at ks (q + 1)) High) (nat_eq (new (q + 1)) (new q + 1)) h);
      }

  pair_whole : (q : ℕ) → IsPair q → is_pair new live ks q ≡ true
  pair_whole q h = both_true _ _ (both_true _ _ h.first h.second) (both_true _ _ (ap (λ k. kind_eq k Low) h.low) (both_true _ _ (ap (λ k. kind_eq k High) h.high) (eq-eqb (new (q + 1)) (new q + 1) h.side)))

  -- a register that is kept is whole, or the low or the high half of a pair
  data Kind_of (o : ℕ) : Type 0 where
    Whole : is_whole (kind_at ks o) ≡ true → Kind_of o
    First : IsPair o → Kind_of o
    Second : (q : ℕ) → o ≡ q + 1 → IsPair q → Kind_of o

  kept_parts : (o : ℕ) → is_kept new live ks o ≡ true → (live o ≡ true) × Kind_of o
  kept_parts o e = (
    left_true (live o) (is_whole (kind_at ks o) || (is_pair new live ks o || is_pair new live ks (o - 1))) e,
    either (is_whole (kind_at ks o)) (is_pair new live ks o || is_pair new live ks (o - 1)) (right_true (live o) (is_whole (kind_at ks o) || (is_pair new live ks o || is_pair new live ks (o - 1))) e)
        (λ h. Whole h) (λ h. either (is_pair new live ks o) (is_pair new live ks (o - 1)) h (λ i. First (pair_parts o i)) (λ i. second o i)),
  )
    where
      second : (o : ℕ) → is_pair new live ks (o - 1) ≡ true → Kind_of o
      second zero i = First (pair_parts 0 i)
      second (suc q) i = Second q (omega arith) (pair_parts q (subst (λ x. is_pair new live ks x ≡ true) (omega arith) i))

  kept_known : (o : ℕ) → Kind_of o → is_known (kind_at ks o) ≡ true
  kept_known o (Whole h) = whole_known (kind_at ks o) h
  kept_known o (First h) = ap is_known h.low
  kept_known o (Second q e h) = ap (λ x. is_known (kind_at ks x)) e ∙ ap is_known h.high

  selects : Unique → (o : ℕ) → is_kept new live ks o ≡ true → selected new live ks (new o) ≡ kind_at ks o
  selects unique o h =
      let parts = kept_parts o h in
      let known = kept_known o parts.1 in
      let test : ℕ → Bool = (λ q. is_kept new live ks q && nat_eq (new q) (new o)) in
      let found = sought_finds (length ks) test o (known_below ks o known) (both_true (is_kept new live ks o) (nat_eq (new o) (new o)) h (eq-eqb (new o) (new o) refl)) in
      let passes = sought_passes (length ks) test found.0 found.1 in
      let other = kept_parts found.0 (left_true (is_kept new live ks found.0) (nat_eq (new found.0) (new o)) passes) in
      let same = eqb-true (new found.0) (new o) (right_true (is_kept new live ks found.0) (nat_eq (new found.0) (new o)) passes) in
      ap (kind_or ks) found.1 ∙ ap (kind_at ks) (unique found.0 o other.0 parts.0 (kept_known found.0 other.1) known same)

  pub held_selected : Unique → (size : ℕ) → ((o : ℕ) → live o ≡ true → new o < size) → Held new live ks (listed size 0 (selected new live ks))
  held_selected unique size room = record {
    whole = λ o l w. at (new o) (room o l) ∙ selects unique o (both_true (live o) _ l (or_left (is_whole (kind_at ks o)) (is_pair new live ks o || is_pair new live ks (o - 1)) w));
    pairs = λ q l l' side low high.
        let i : is_pair new live ks q ≡ true = pair_whole q (record { first = l; second = l'; low = low; high = high; side = side }) in
        let back : (q + 1) - 1 ≡ q = omega arith in (
          at (new q) (room q l) ∙ selects unique q (both_true (live q) _ l (or_right (is_whole (kind_at ks q)) _ (or_left (is_pair new live ks q) (is_pair new live ks (q - 1)) i))) ∙ low,
          subst (λ x. kind_at (listed size 0 (selected new live ks)) x ≡ High) side
              (at (new (q + 1)) (room (q + 1) l') ∙ selects unique (q + 1) (both_true (live (q + 1)) _ l' (or_right (is_whole (kind_at ks (q + 1))) _ (or_right (is_pair new live ks (q + 1)) (is_pair new live ks ((q + 1) - 1)) (subst (λ x. is_pair new live ks x ≡ true) (sym back) i)))) ∙ high),
        );
  }
    where
      at : (x : ℕ) → x < size → kind_at (listed size 0 (selected new live ks)) x ≡ selected new live ks x
      at x lt = listed_at size 0 x (selected new live ks) lt ∙ ap (selected new live ks) (omega arith)

-- what is held is at or below what is selected above it
module _ (p : NamedProgram) (new : ℕ → ℕ) (live : ℕ → Bool) (ks ks' ls : List Kind) (held : Held new live ks ks') (below : all_below p ks ls ≡ true) where
  at_below : (o : ℕ) → live o ≡ true → Kind_of new live ls o → is_below p (kind_at ks' (new o)) (kind_at ls o) ≡ true
  at_below o l (Whole w) =
      let b = each_below p ks ls o below in
      subst (λ k. is_below p k (kind_at ls o) ≡ true) (sym (held.whole o l (below_whole p (kind_at ks o) (kind_at ls o) b w))) b
  at_below o l (First h) = ap₂ (is_below p) (halves o h).0 h.low
    where
      halves : (q : ℕ) → IsPair new live ls q → (kind_at ks' (new q) ≡ Low) × (kind_at ks' (new q + 1) ≡ High)
      halves q h = held.pairs q h.first h.second h.side
          (below_low p (kind_at ks q) (subst (λ k. is_below p (kind_at ks q) k ≡ true) h.low (each_below p ks ls q below)))
          (below_high p (kind_at ks (q + 1)) (subst (λ k. is_below p (kind_at ks (q + 1)) k ≡ true) h.high (each_below p ks ls (q + 1) below)))
  at_below o l (Second q e h) = subst (λ x. is_below p (kind_at ks' (new x)) (kind_at ls x) ≡ true) (sym e) (ap₂ (is_below p) (ap (kind_at ks') h.side ∙ halves.1) h.high)
    where
      halves : (kind_at ks' (new q) ≡ Low) × (kind_at ks' (new q + 1) ≡ High)
      halves = held.pairs q h.first h.second h.side
          (below_low p (kind_at ks q) (subst (λ k. is_below p (kind_at ks q) k ≡ true) h.low (each_below p ks ls q below)))
          (below_high p (kind_at ks (q + 1)) (subst (λ k. is_below p (kind_at ks (q + 1)) k ≡ true) h.high (each_below p ks ls (q + 1) below)))

  pub below_selected : all_below p ks' (listed (length ks') 0 (selected new live ls)) ≡ true
  below_selected = from_each p ks' (listed (length ks') 0 (selected new live ls)) (listed_long (length ks') 0 (selected new live ls)) (λ x lt.
      subst (λ k. is_below p (kind_at ks' x) k ≡ true) (sym (listed_at (length ks') 0 x (selected new live ls) lt ∙ ap (selected new live ls) (omega arith))) (at x))
    where
      at : (x : ℕ) → is_below p (kind_at ks' x) (selected new live ls x) ≡ true
      at x = by (sought (length ls) (λ o. is_kept new live ls o && nat_eq (new o) x)) refl
        where
          by : (r : Option ℕ) → sought (length ls) (λ o. is_kept new live ls o && nat_eq (new o) x) ≡ r → is_below p (kind_at ks' x) (kind_or ls r) ≡ true
          by None e = below_nothing p (kind_at ks' x)
          by (Some o) e =
              let passes = sought_passes (length ls) (λ o. is_kept new live ls o && nat_eq (new o) x) o e in
              let parts = kept_parts new live ls o (left_true (is_kept new live ls o) (nat_eq (new o) x) passes) in
              subst (λ y. is_below p (kind_at ks' y) (kind_at ls o) ≡ true) (eqb-true (new o) x (right_true (is_kept new live ls o) (nat_eq (new o) x) passes)) (at_below o parts.0 parts.1)
