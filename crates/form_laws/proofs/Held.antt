-- What registers hold of kinds under other names, and how writes keep it.
use Rattle.std.proofs.Common.{◌≡◌, ℕ, zero, suc, ◌+◌, ◌-◌, ◌<◌, Bool, true, false, List, [], ◌∷◌, length, refl, sym, ap, ◌∙◌, subst, inl, inr, arith, eqb-true, eq-eqb}
use Rattle.std.specs.Prelude.{◌⊎◌, nat_eq, map, slice_set, if◌then◌else◌}
use Rattle.std.proofs.lemmas.List.{get_or-set_same, get_or-set_other, length-set}
use Rattle.dalvik_defs.specs.declared.program.NamedProgram.{NamedProgram}
use Rattle.pass_defs.specs.Kinds.{Kind, Undefined, Low, High, kind_eq, is_below}
use Rattle.pass_defs.specs.Registers.{kind_at, cleared, split, written_one, written_pair}
use Rattle.pass_defs.proofs.Writes.{same_kind}
use Rattle.form_laws.proofs.Onward.{clash}
use Rattle.form_laws.specs.Kinds.{is_whole, Held}

-- a kind that isn't undefined
abbrev pub is_known : Kind → Bool
is_known Undefined = false
is_known k = true

pub known_above : (p : NamedProgram) (k l : Kind) → is_below p k l ≡ true → is_known l ≡ true → is_known k ≡ true
known_above p Undefined Undefined e h = h
known_above p Undefined l e h = clash false e refl
known_above p k l e h = refl

pub whole_known : (k : Kind) → is_whole k ≡ true → is_known k ≡ true
whole_known Undefined e = clash false e refl
whole_known k e = refl

whole_low : (k : Kind) → is_whole k ≡ true → kind_eq k Low ≡ false
whole_low Low e = clash false e refl
whole_low k e = refl

whole_high : (k : Kind) → is_whole k ≡ true → kind_eq k High ≡ false
whole_high High e = clash false e refl
whole_high k e = refl

pub same_or : (a b : ℕ) → (a ≡ b) ⊎ (a ≡ b → ⊥)
same_or a b = by (nat_eq a b) refl
  where
    by : (v : Bool) → nat_eq a b ≡ v → (a ≡ b) ⊎ (a ≡ b → ⊥)
    by true i = inl (eqb-true a b i)
    by false i = inr (λ e. clash (nat_eq a b) (eq-eqb a b e) i)

next_of : (x y : ℕ) → x ≡ y - 1 → (x ≡ y → ⊥) → x + 1 ≡ y
next_of x zero e ne = absurd (ne (omega (arith, e)))
next_of x (suc y) e ne = omega (arith, e)

-- ---- one register

pub set_other : (ks : List Kind) (r o : ℕ) (k : Kind) → (o ≡ r → ⊥) → kind_at (slice_set ks r k) o ≡ kind_at ks o
set_other ks r o k ne = get_or-set_other ks r o k Undefined (λ e. ne (omega (arith, e)))

set_same : (ks : List Kind) (r : ℕ) (k : Kind) → r < length ks → kind_at (slice_set ks r k) r ≡ k
set_same ks r k lt = get_or-set_same ks r k Undefined lt

set_undefined : (ks : List Kind) (r : ℕ) → kind_at (slice_set ks r Undefined) r ≡ Undefined
set_undefined [] r = refl
set_undefined (k ∷ ks) zero = refl
set_undefined (k ∷ ks) (suc r) = set_undefined ks r

clear_other : (r o : ℕ) (half : Kind) (ks : List Kind) → (o ≡ r → ⊥) → kind_at (cleared r half ks) o ≡ kind_at ks o
clear_other r o half ks ne = by (kind_eq (kind_at ks r) half)
  where
    by : (b : Bool) → kind_at (if b then slice_set ks r Undefined else ks) o ≡ kind_at ks o
    by true = set_other ks r o Undefined ne
    by false = refl

-- what is known after some register was cleared was there
clear_from : (r o : ℕ) (half : Kind) (ks : List Kind) → is_known (kind_at (cleared r half ks) o) ≡ true → kind_at (cleared r half ks) o ≡ kind_at ks o
clear_from r o half ks h = by (same_or o r)
  where
    at : (b : Bool) → is_known (kind_at (if b then slice_set ks r Undefined else ks) r) ≡ true → kind_at (if b then slice_set ks r Undefined else ks) r ≡ kind_at ks r
    at true h = clash false (sym (ap is_known (set_undefined ks r)) ∙ h) refl
    at false h = refl

    by : (o ≡ r) ⊎ (o ≡ r → ⊥) → kind_at (cleared r half ks) o ≡ kind_at ks o
    by (inl e) = subst (λ x. kind_at (cleared r half ks) x ≡ kind_at ks x) (sym e) (at (kind_eq (kind_at ks r) half) (subst (λ x. is_known (kind_at (cleared r half ks) x) ≡ true) e h))
    by (inr ne) = clear_other r o half ks ne

-- another register, or one that isn't such a half, stays
clear_keeps : (r o : ℕ) (half : Kind) (ks : List Kind) → (o ≡ r → kind_eq (kind_at ks o) half ≡ false) → kind_at (cleared r half ks) o ≡ kind_at ks o
clear_keeps r o half ks h = by (same_or o r)
  where
    at : (b : Bool) → b ≡ false → kind_at (if b then slice_set ks r Undefined else ks) o ≡ kind_at ks o
    at true e = clash true refl e
    at false e = refl

    by : (o ≡ r) ⊎ (o ≡ r → ⊥) → kind_at (cleared r half ks) o ≡ kind_at ks o
    by (inl e) = at (kind_eq (kind_at ks r) half) (ap (λ x. kind_eq (kind_at ks x) half) (sym e) ∙ h e)
    by (inr ne) = clear_other r o half ks ne

clear_hit : (r : ℕ) (half : Kind) (ks : List Kind) → is_known half ≡ true → kind_at (cleared r half ks) r ≡ half → ⊥
clear_hit r half ks k e = at (kind_eq (kind_at ks r) half) refl e
  where
    at : (b : Bool) → kind_eq (kind_at ks r) half ≡ b → kind_at (if b then slice_set ks r Undefined else ks) r ≡ half → ⊥
    at true i e = clash (is_known half) k (ap is_known (sym e ∙ set_undefined ks r))
    at false i e = clash (kind_eq (kind_at ks r) half) (ap (λ x. kind_eq x half) e ∙ same_kind half) i

clear_long : (r : ℕ) (half : Kind) (ks : List Kind) → length (cleared r half ks) ≡ length ks
clear_long r half ks = by (kind_eq (kind_at ks r) half)
  where
    by : (b : Bool) → length (if b then slice_set ks r Undefined else ks) ≡ length ks
    by true = length-set ks r Undefined
    by false = refl

split_long : (r : ℕ) (ks : List Kind) → length (split r ks) ≡ length ks
split_long r ks = clear_long (r - 1) Low (cleared (r + 1) High ks) ∙ clear_long (r + 1) High ks

-- ---- a write that splits wides

-- what is known beside a write was there
pub split_from : (r o : ℕ) (ks : List Kind) → is_known (kind_at (split r ks) o) ≡ true → kind_at (split r ks) o ≡ kind_at ks o
split_from r o ks h =
    let outer = clear_from (r - 1) o Low (cleared (r + 1) High ks) h in
    outer ∙ clear_from (r + 1) o High ks (sym (ap is_known outer) ∙ h)

split_keeps : (r o : ℕ) (ks : List Kind) → (o ≡ r - 1 → kind_eq (kind_at ks o) Low ≡ false) → (o ≡ r + 1 → kind_eq (kind_at ks o) High ≡ false) → kind_at (split r ks) o ≡ kind_at ks o
split_keeps r o ks low high =
    let inner = clear_keeps (r + 1) o High ks high in
    clear_keeps (r - 1) o Low (cleared (r + 1) High ks) (λ e. ap (λ k. kind_eq k Low) inner ∙ low e) ∙ inner

-- no half is left of a wide that was split
split_low : (q : ℕ) (ks : List Kind) → kind_at (split (q + 1) ks) q ≡ Low → ⊥
split_low q ks e = let z : (q + 1) - 1 ≡ q = omega arith in
    clear_hit q Low (cleared ((q + 1) + 1) High ks) refl (subst (λ x. kind_at (cleared x Low (cleared ((q + 1) + 1) High ks)) q ≡ Low) z e)

split_high : (r : ℕ) (ks : List Kind) → kind_at (split r ks) (r + 1) ≡ High → ⊥
split_high r ks e =
    let outer = clear_from (r - 1) (r + 1) Low (cleared (r + 1) High ks) (ap is_known e) in
    clear_hit (r + 1) High ks refl (sym outer ∙ e)

-- ---- what registers hold

module _ (new : ℕ → ℕ) (live live' : ℕ → Bool) (ks ks' : List Kind) (held : Held new live ks ks') where
  -- a register that is live later is the one, or was live, and goes by another name
  abbrev pub Apart : ℕ → ℕ → Type 0
  Apart to o = (live o ≡ true) × (is_known (kind_at ks o) ≡ true → new o ≡ new to → ⊥)

  pub fewer : ((o : ℕ) → live' o ≡ true → live o ≡ true) → Held new live' ks ks'
  fewer h = record { whole = λ o l w. held.whole o (h o l) w; pairs = λ q l l' e i j. held.pairs q (h q l) (h (q + 1) l') e i j }

  module _ (to : ℕ) (k : Kind) (apart : (o : ℕ) → live' o ≡ true → (o ≡ to → ⊥) → Apart to o) (room : to < length ks) (room' : new to < length ks') where
    abbrev after : List Kind
    after = written_one to k ks

    abbrev after' : List Kind
    after' = written_one (new to) k ks'

    there : kind_at after to ≡ k
    there = set_same (split to ks) to k (subst (λ n. to < n) (sym (split_long to ks)) room)

    there' : kind_at after' (new to) ≡ k
    there' = set_same (split (new to) ks') (new to) k (subst (λ n. new to < n) (sym (split_long (new to) ks')) room')

    before : (o : ℕ) → (o ≡ to → ⊥) → is_known (kind_at after o) ≡ true → kind_at after o ≡ kind_at ks o
    before o ne h = let e = set_other (split to ks) to o k ne in e ∙ split_from to o ks (sym (ap is_known e) ∙ h)

    beside : (y : ℕ) → (y ≡ new to → ⊥) → (y ≡ new to - 1 → kind_eq (kind_at ks' y) Low ≡ false) → (y ≡ new to + 1 → kind_eq (kind_at ks' y) High ≡ false) → kind_at after' y ≡ kind_at ks' y
    beside y ne low high = set_other (split (new to) ks') (new to) y k ne ∙ split_keeps (new to) y ks' low high

    whole_one : (o : ℕ) → live' o ≡ true → is_whole (kind_at after o) ≡ true → kind_at after' (new o) ≡ kind_at after o
    whole_one o l w = by (same_or o to)
      where
        by : (o ≡ to) ⊎ (o ≡ to → ⊥) → kind_at after' (new o) ≡ kind_at after o
        by (inl e) = subst (λ x. kind_at after' (new x) ≡ kind_at after x) (sym e) (there' ∙ sym there)
        by (inr ne) =
            let h = before o ne (whole_known (kind_at after o) w) in
            let was : is_whole (kind_at ks o) ≡ true = sym (ap is_whole h) ∙ w in
            let a = apart o l ne in
            let same = held.whole o a.0 was in
            let is : is_whole (kind_at ks' (new o)) ≡ true = ap is_whole same ∙ was in
            beside (new o) (a.1 (whole_known (kind_at ks o) was)) (λ e. whole_low (kind_at ks' (new o)) is) (λ e. whole_high (kind_at ks' (new o)) is) ∙ same ∙ sym h

    pairs_one : kind_eq k Low ≡ false → (q : ℕ) → live' q ≡ true → live' (q + 1) ≡ true → new (q + 1) ≡ new q + 1 → kind_at after q ≡ Low → kind_at after (q + 1) ≡ High
        → (kind_at after' (new q) ≡ Low) × (kind_at after' (new q + 1) ≡ High)
    pairs_one narrow q l l' side low high = by (same_or q to) (same_or (q + 1) to)
      where
        by : (q ≡ to) ⊎ (q ≡ to → ⊥) → (q + 1 ≡ to) ⊎ (q + 1 ≡ to → ⊥) → (kind_at after' (new q) ≡ Low) × (kind_at after' (new q + 1) ≡ High)
        by (inl e) o = clash (kind_eq k Low) (ap (λ x. kind_eq x Low) (sym there ∙ subst (λ x. kind_at after x ≡ Low) e low)) narrow
        by (inr ne) (inl e) = absurd (split_low q ks (subst (λ x. kind_at (split x ks) q ≡ Low) (sym e) (sym (set_other (split to ks) to q k ne) ∙ low)))
        by (inr ne) (inr ne') =
            let h = before q ne (ap is_known low) in let h' = before (q + 1) ne' (ap is_known high) in
            let a = apart q l ne in let a' = apart (q + 1) l' ne' in
            let first = a.1 (ap is_known (sym h ∙ low)) in let second = a'.1 (ap is_known (sym h' ∙ high)) in
            let r = held.pairs q a.0 a'.0 side (sym h ∙ low) (sym h' ∙ high) in (
              beside (new q) first (λ e. absurd (second (side ∙ next_of (new q) (new to) e first))) (λ e. ap (λ x. kind_eq x High) r.0) ∙ r.0,
              beside (new q + 1) (λ e. second (side ∙ e)) (λ e. ap (λ x. kind_eq x Low) r.1) (λ e. absurd (first (omega (arith, e)))) ∙ r.1,
            )

    pub held_one : kind_eq k Low ≡ false → Held new live' after after'
    held_one narrow = record { whole = whole_one; pairs = pairs_one narrow }

  module _ (to : ℕ) (side : new (to + 1) ≡ new to + 1)
      (apart : (o : ℕ) → live' o ≡ true → (o ≡ to → ⊥) → (o ≡ to + 1 → ⊥) → (live o ≡ true) × (is_known (kind_at ks o) ≡ true → (new o ≡ new to → ⊥) × (new o ≡ new to + 1 → ⊥)))
      (room : to + 1 < length ks) (room' : new to + 1 < length ks') where
    abbrev wide : List Kind
    wide = written_pair to ks

    abbrev wide' : List Kind
    wide' = written_pair (new to) ks'

    pair_at : (r : ℕ) (xs : List Kind) → r + 1 < length xs → (kind_at (written_pair r xs) r ≡ Low) × (kind_at (written_pair r xs) (r + 1) ≡ High)
    pair_at r xs lt =
        let inner = split (r + 1) (split r xs) in
        let long : length inner ≡ length xs = split_long (r + 1) (split r xs) ∙ split_long r xs in
        let long_one : length (slice_set inner r Low) ≡ length xs = length-set inner r Low ∙ long in (
          set_other (slice_set inner r Low) (r + 1) r High (λ e. absurd (omega (arith, e))) ∙ set_same inner r Low (omega (arith, lt, long)),
          set_same (slice_set inner r Low) (r + 1) High (omega (arith, lt, long_one)),
        )

    beyond : (r o : ℕ) (xs : List Kind) → (o ≡ r → ⊥) → (o ≡ r + 1 → ⊥) → kind_at (written_pair r xs) o ≡ kind_at (split (r + 1) (split r xs)) o
    beyond r o xs ne ne' = set_other (slice_set (split (r + 1) (split r xs)) r Low) (r + 1) o High ne' ∙ set_other (split (r + 1) (split r xs)) r o Low ne

    before_wide : (o : ℕ) → (o ≡ to → ⊥) → (o ≡ to + 1 → ⊥) → is_known (kind_at wide o) ≡ true → kind_at wide o ≡ kind_at ks o
    before_wide o ne ne' h =
        let e = beyond to o ks ne ne' in
        let outer = split_from (to + 1) o (split to ks) (sym (ap is_known e) ∙ h) in
        e ∙ outer ∙ split_from to o ks (sym (ap is_known (e ∙ outer)) ∙ h)

    beside_wide : (y : ℕ) → (y ≡ new to → ⊥) → (y ≡ new to + 1 → ⊥) → (y ≡ new to - 1 → kind_eq (kind_at ks' y) Low ≡ false) → (y ≡ (new to + 1) + 1 → kind_eq (kind_at ks' y) High ≡ false) → kind_at wide' y ≡ kind_at ks' y
    beside_wide y ne ne' low high =
        let inner = split_keeps (new to) y ks' low (λ e. absurd (ne' e)) in
        beyond (new to) y ks' ne ne' ∙ split_keeps (new to + 1) y (split (new to) ks') (λ e. absurd (ne (omega (arith, e)))) (λ e. ap (λ k. kind_eq k High) inner ∙ high e) ∙ inner

    whole_wide : (o : ℕ) → live' o ≡ true → is_whole (kind_at wide o) ≡ true → kind_at wide' (new o) ≡ kind_at wide o
    whole_wide o l w = by (same_or o to) (same_or o (to + 1))
      where
        half : (x : ℕ) (k : Kind) → o ≡ x → kind_at wide x ≡ k → is_whole k ≡ false → kind_at wide' (new o) ≡ kind_at wide o
        half x k e i n = clash (is_whole k) (ap is_whole (sym i) ∙ subst (λ z. is_whole (kind_at wide z) ≡ true) e w) n

        by : (o ≡ to) ⊎ (o ≡ to → ⊥) → (o ≡ to + 1) ⊎ (o ≡ to + 1 → ⊥) → kind_at wide' (new o) ≡ kind_at wide o
        by (inl e) z = half to Low e (pair_at to ks room).0 refl
        by (inr ne) (inl e) = half (to + 1) High e (pair_at to ks room).1 refl
        by (inr ne) (inr ne') =
            let h = before_wide o ne ne' (whole_known (kind_at wide o) w) in
            let was : is_whole (kind_at ks o) ≡ true = sym (ap is_whole h) ∙ w in
            let a = apart o l ne ne' in
            let names = a.1 (whole_known (kind_at ks o) was) in
            let same = held.whole o a.0 was in
            let is : is_whole (kind_at ks' (new o)) ≡ true = ap is_whole same ∙ was in
            beside_wide (new o) names.0 names.1 (λ e. whole_low (kind_at ks' (new o)) is) (λ e. whole_high (kind_at ks' (new o)) is) ∙ same ∙ sym h

    pairs_wide : (q : ℕ) → live' q ≡ true → live' (q + 1) ≡ true → new (q + 1) ≡ new q + 1 → kind_at wide q ≡ Low → kind_at wide (q + 1) ≡ High → (kind_at wide' (new q) ≡ Low) × (kind_at wide' (new q + 1) ≡ High)
    pairs_wide q l l' beside low high = by (same_or q to) (same_or q (to + 1)) (same_or (q + 1) to)
      where
        Goal : Type 0
        Goal = (kind_at wide' (new q) ≡ Low) × (kind_at wide' (new q + 1) ≡ High)

        by : (q ≡ to) ⊎ (q ≡ to → ⊥) → (q ≡ to + 1) ⊎ (q ≡ to + 1 → ⊥) → (q + 1 ≡ to) ⊎ (q + 1 ≡ to → ⊥) → (kind_at wide' (new q) ≡ Low) × (kind_at wide' (new q + 1) ≡ High)
        by (inl e) y z = subst (λ x. (kind_at wide' (new x) ≡ Low) × (kind_at wide' (new x + 1) ≡ High)) (sym e) (pair_at (new to) ks' room')
        by (inr ne) (inl e) z = clash true refl (ap (λ k. kind_eq k Low) (sym low ∙ subst (λ x. kind_at wide x ≡ High) (sym e) (pair_at to ks room).1))
        by (inr ne) (inr ne') (inl e) = clash true refl (ap (λ k. kind_eq k High) (sym high ∙ subst (λ x. kind_at wide x ≡ Low) (sym e) (pair_at to ks room).0))
        by (inr ne) (inr ne') (inr apart_first) =
            let apart_second : q + 1 ≡ to + 1 → ⊥ = λ e. ne (omega (arith, e)) in
            let h = before_wide q ne ne' (ap is_known low) in let h' = before_wide (q + 1) apart_first apart_second (ap is_known high) in
            let a = apart q l ne ne' in let a' = apart (q + 1) l' apart_first apart_second in
            let first = a.1 (ap is_known (sym h ∙ low)) in let second = a'.1 (ap is_known (sym h' ∙ high)) in
            let r = held.pairs q a.0 a'.0 beside (sym h ∙ low) (sym h' ∙ high) in (
              beside_wide (new q) first.0 first.1 (λ e. absurd (second.0 (beside ∙ next_of (new q) (new to) e first.0))) (λ e. ap (λ x. kind_eq x High) r.0) ∙ r.0,
              beside_wide (new q + 1) (λ e. second.0 (beside ∙ e)) (λ e. second.1 (beside ∙ e)) (λ e. ap (λ x. kind_eq x Low) r.1) (λ e. absurd (first.1 (omega (arith, e)))) ∙ r.1,
            )

    pub held_two : Held new live' wide wide'
    held_two = record { whole = whole_wide; pairs = pairs_wide }

-- ---- all kinds changed

-- a change of kinds that makes no halves and keeps them
pub record Changes (g : Kind → Kind) : Type 0 where
  pub nothing : g Undefined ≡ Undefined
  pub low : g Low ≡ Low
  pub high : g High ≡ High
  pub whole : (k : Kind) → is_whole (g k) ≡ true → is_whole k ≡ true
  pub from_low : (k : Kind) → g k ≡ Low → k ≡ Low
  pub from_high : (k : Kind) → g k ≡ High → k ≡ High

pub mapped : (g : Kind → Kind) → g Undefined ≡ Undefined → (ks : List Kind) (o : ℕ) → kind_at (map g ks) o ≡ g (kind_at ks o)
mapped g e [] o = sym e
mapped g e (k ∷ ks) zero = refl
mapped g e (k ∷ ks) (suc o) = mapped g e ks o

pub held_map : (g : Kind → Kind) → Changes g → (new : ℕ → ℕ) (live : ℕ → Bool) (ks ks' : List Kind) → Held new live ks ks' → Held new live (map g ks) (map g ks')
held_map g c new live ks ks' held = record {
  whole = λ o l w. at ks' (new o) ∙ ap g (held.whole o l (c.whole (kind_at ks o) (sym (ap is_whole (at ks o)) ∙ w))) ∙ sym (at ks o);
  pairs = λ q l l' e i j. let r = held.pairs q l l' e (c.from_low (kind_at ks q) (sym (at ks q) ∙ i)) (c.from_high (kind_at ks (q + 1)) (sym (at ks (q + 1)) ∙ j)) in
      (at ks' (new q) ∙ ap g r.0 ∙ c.low, at ks' (new q + 1) ∙ ap g r.1 ∙ c.high);
}
  where
    at : (xs : List Kind) (o : ℕ) → kind_at (map g xs) o ≡ g (kind_at xs o)
    at = mapped g c.nothing

pub one_long : (r : ℕ) (k : Kind) (ks : List Kind) → length (written_one r k ks) ≡ length ks
one_long r k ks = length-set (split r ks) r k ∙ split_long r ks

pub pair_long : (r : ℕ) (ks : List Kind) → length (written_pair r ks) ≡ length ks
pair_long r ks = length-set (slice_set (split (r + 1) (split r ks)) r Low) (r + 1) High ∙ length-set (split (r + 1) (split r ks)) r Low ∙ split_long (r + 1) (split r ks) ∙ split_long r ks
