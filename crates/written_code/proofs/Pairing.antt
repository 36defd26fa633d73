-- The lists of a written directory ascend, and name members of the class.
use Rattle.std.proofs.Common.{◌≡◌, ◌+◌, inl, inr, ℕ, zero, suc, Bool, true, false, List, [], ◌∷◌, ◌++◌, map, refl, sym, ap, subst, ◌∙◌, arith, All}
use Rattle.std.specs.Prelude.{nat_eq, nat_lt, nat_le, ◌||◌, ◌&&◌}
use Rattle.std.specs.List.{AllByRecursion, list_any}
use Rattle.std.proofs.lemmas.Bool.{cases_lt, lt-ltb, eq-eqb, ne_eqb, eqb-true}
use Rattle.std.proofs.lemmas.List.Elements.{All-nil, All-cons}
use Rattle.lemmas.proofs.Bools.{clash, or_cases, neither_of}
use Rattle.code_write.specs.Pairs.{Numbered, is_before, insert, in_order}
use Rattle.dex_pools.specs.Finds.{Ascends}
use Rattle.dex_write.specs.Numbers.{at_place}
use Rattle.dex_write.specs.Sets.{pair_list}
use Rattle.dex_defs.specs.Annotations.{pair_below}
use Rattle.dex_defs.specs.ClassData.{Entry}
use Rattle.dex_defs.specs.ClassDefs.{IsDefined}
use Rattle.written_file.proofs.Places.{has}
use Rattle.written_file.proofs.Sorting.{Differ, order_all}
use Rattle.written_file.proofs.Pairs.{pairs_from}

-- ---- in order

-- no pair has this number
abbrev Absent : ℕ → List Numbered → Type 0
Absent n xs = AllByRecursion (λ x. nat_eq x.0 n ≡ false) xs

-- the numbers of pairs differ
abbrev Apart : List Numbered → Type 0
Apart [] = Unit {0}
Apart (x ∷ xs) = Absent x.0 xs × Apart xs

differ_nat : (a b : ℕ) → nat_eq a b ≡ false → (a ≡ b → ⊥)
differ_nat a b e same = clash (nat_eq a b) (eq-eqb a b same) e

-- a pair before one with another number has a lower one
before_low : (a b : Numbered) → nat_eq b.0 a.0 ≡ false → is_before a b ≡ true → pair_below a b ≡ true
before_low a b ne h = elim (or_cases (nat_lt a.0 b.0) (nat_eq a.0 b.0 && nat_le a.1 b.1) h) [
  | inl lt ↦ lt
  | inr eq ↦ absurd (differ_nat b.0 a.0 ne (sym (eqb-true a.0 b.0 (first_true (nat_eq a.0 b.0) (nat_le a.1 b.1) eq))))
]
  where
    first_true : (s t : Bool) → (s && t) ≡ true → s ≡ true
    first_true true t e = refl
    first_true false t e = absurd cc

behind_low : (a b : Numbered) → nat_eq b.0 a.0 ≡ false → is_before a b ≡ false → pair_below b a ≡ true
behind_low a b ne h = elim (cases_lt b.0 a.0) [
  | inl lt ↦ lt-ltb b.0 a.0 lt
  | inr le ↦ elim (cases_lt a.0 b.0) [
    | inl lt ↦ clash (nat_lt a.0 b.0) (lt-ltb a.0 b.0 lt) (neither_of (nat_lt a.0 b.0) (nat_eq a.0 b.0 && nat_le a.1 b.1) h).0
    | inr ge ↦ absurd (differ_nat b.0 a.0 ne (omega (arith, le, ge)))
  ]
]

-- a pair that is below all of these
abbrev Low : Numbered → List Numbered → Type 0
Low a [] = Unit {0}
Low a (b ∷ bs) = pair_below a b ≡ true

rising_cons : (a : Numbered) (bs : List Numbered) → Low a bs → Ascends pair_below bs → Ascends pair_below (a ∷ bs)
rising_cons a [] l up = tt
rising_cons a (b ∷ bs) l up = (l, up)

rising_tail : (b : Numbered) (bs : List Numbered) → Ascends pair_below (b ∷ bs) → Low b bs × Ascends pair_below bs
rising_tail b [] up = (tt, tt)
rising_tail b (c ∷ bs) up = (up.0, up.1)

low_insert : (b a : Numbered) (bs : List Numbered) → Low b bs → pair_below b a ≡ true → Low b (insert a bs)
low_insert b a [] l h = h
low_insert b a (c ∷ bs) l h = by (is_before a c) refl
  where
    by : (t : Bool) → is_before a c ≡ t → Low b (insert a (c ∷ bs))
    by true e = rw e h
    by false e = rw e l

rising_insert : (a : Numbered) (bs : List Numbered) → Absent a.0 bs → Ascends pair_below bs → Ascends pair_below (insert a bs)
rising_insert a [] none up = tt
rising_insert a (b ∷ bs) none up = by (is_before a b) refl (rising_insert a bs none.1 (rising_tail b bs up).1)
  where
    by : (t : Bool) → is_before a b ≡ t → Ascends pair_below (insert a bs) → Ascends pair_below (insert a (b ∷ bs))
    by true e rest = rw e (before_low a b none.0 e, up)
    by false e rest = rw e (rising_cons b (insert a bs) (low_insert b a bs (rising_tail b bs up).0 (behind_low a b none.0 e)) rest)

pub rising_order : (xs : List Numbered) → Apart xs → Ascends pair_below (in_order xs)
unfolding in_order
rising_order [] apart = tt
rising_order (x ∷ xs) apart = rising_insert x (in_order xs) (order_all (λ y. nat_eq y.0 x.0 ≡ false) xs apart.0) (rising_order xs apart.1)

-- ---- pairs of members

other_way : (n m : ℕ) → nat_eq n m ≡ false → nat_eq m n ≡ false
other_way n m e = ne_eqb m n (λ s. differ_nat n m e (sym s))

pair_absent : (n m o : ℕ) (rest : List Numbered) → nat_eq m n ≡ false → Absent n rest → Absent n (pair_list m o ++ rest)
pair_absent n m zero rest e a = a
pair_absent n m (suc o) rest e a = (e, a)

absent_pairs : (n : ℕ) (ns : List ℕ) (at : ℕ) (offsets : List ℕ) → has n ns ≡ false → Absent n (pairs_from ns at offsets)
absent_pairs n [] at offsets h = tt
absent_pairs n (m ∷ ms) at offsets h =
    let both = neither_of (nat_eq n m) (has n ms) h in
    pair_absent n m (at_place offsets at) (pairs_from ms (suc at) offsets) (other_way n m both.0) (absent_pairs n ms (suc at) offsets both.1)

pair_apart : (n o : ℕ) (rest : List Numbered) → Absent n rest → Apart rest → Apart (pair_list n o ++ rest)
pair_apart n zero rest a b = b
pair_apart n (suc o) rest a b = (a, b)

pairs_apart : (ns : List ℕ) (at : ℕ) (offsets : List ℕ) → Differ ns → Apart (pairs_from ns at offsets)
pairs_apart [] at offsets d = tt
pairs_apart (n ∷ ns) at offsets d = pair_apart n (at_place offsets at) (pairs_from ns (suc at) offsets) (absent_pairs n ns (suc at) offsets d.0) (pairs_apart ns (suc at) offsets d.1)

pub pairs_rise : (ns : List ℕ) (offsets : List ℕ) → Differ ns → Ascends pair_below (in_order (pairs_from ns 0 offsets))
pairs_rise ns offsets d = rising_order (pairs_from ns 0 offsets) (pairs_apart ns 0 offsets d)

-- ---- each names a member

abbrev Among : List ℕ → Numbered → Type 0
Among ns pair = list_any (λ n. nat_eq n pair.0) ns ≡ true

or_last : (a b : Bool) → b ≡ true → (a || b) ≡ true
or_last true b h = refl
or_last false b h = h

or_first : (a b : Bool) → a ≡ true → (a || b) ≡ true
or_first true b h = refl
or_first false b h = absurd cc

more_among : (n : ℕ) (ns : List ℕ) (xs : List Numbered) → AllByRecursion (Among ns) xs → AllByRecursion (Among (n ∷ ns)) xs
more_among n ns [] a = tt
more_among n ns (x ∷ xs) a = (or_last (nat_eq n x.0) (list_any (λ m. nat_eq m x.0) ns) a.0, more_among n ns xs a.1)

pair_among : (n o : ℕ) (ns : List ℕ) (rest : List Numbered) → AllByRecursion (Among (n ∷ ns)) rest → AllByRecursion (Among (n ∷ ns)) (pair_list n o ++ rest)
pair_among n zero ns rest a = a
pair_among n (suc o) ns rest a = (or_first (nat_eq n n) (list_any (λ m. nat_eq m n) ns) (eq-eqb n n refl), a)

pairs_among : (ns : List ℕ) (at : ℕ) (offsets : List ℕ) → AllByRecursion (Among ns) (pairs_from ns at offsets)
pairs_among [] at offsets = tt
pairs_among (n ∷ ns) at offsets = pair_among n (at_place offsets at) ns (pairs_from ns (suc at) offsets) (more_among n ns (pairs_from ns (suc at) offsets) (pairs_among ns (suc at) offsets))

any_numbers : (x : ℕ) (es : List Entry) → list_any (λ n. nat_eq n x) (map (λ e. e.number) es) ≡ list_any (λ e. nat_eq e.number x) es
any_numbers x [] = refl
any_numbers x (e ∷ es) = ap (λ (b : Bool). nat_eq e.number x || b) (any_numbers x es)

defined_all : (es : List Entry) (xs : List Numbered) → AllByRecursion (Among (map (λ e. e.number) es)) xs → All (IsDefined es) xs
defined_all es [] a = All-nil (IsDefined es)
defined_all es (x ∷ xs) a = All-cons (IsDefined es) x xs (sym (any_numbers x.0 es) ∙ a.0) (defined_all es xs a.1)

pub pairs_defined : (es : List Entry) (ns offsets : List ℕ) → map (λ e. e.number) es ≡ ns → All (IsDefined es) (in_order (pairs_from ns 0 offsets))
pairs_defined es ns offsets same = defined_all es (in_order (pairs_from ns 0 offsets)) (order_all (Among (map (λ e. e.number) es)) (pairs_from ns 0 offsets) (subst (λ l. AllByRecursion (Among l) (pairs_from ns 0 offsets)) (sym same) (pairs_among ns 0 offsets)))
