-- How far a table can rise.
use Rattle.std.proofs.Common.{◌≡◌, ℕ, zero, suc, ◌+◌, ◌<◌, ◌≤◌, Bool, true, false, ◌&&◌, ◌||◌, nat_eq, nat_lt, min, List, [], ◌∷◌, length, set, get_or, Option, Some, None, inl, inr, refl, ap, subst, arith}
use Rattle.std.specs.Prelude.{slice_set, if◌then◌else◌}
use Rattle.std.specs.List.{sum_by}
use Rattle.std.proofs.lemmas.Bool.{ltb-true, cases_lt, or_cases}
use Rattle.std.proofs.lemmas.List.{set_past}
use Rattle.std.proofs.lemmas.List.Sums.{sum_by-set}
use Rattle.verify.specs.declared.kinds.Kind.{Kind}
use Rattle.verify.specs.declared.kinds.Kind.TheVariants as kind
use Rattle.verify.specs.declared.tables.Tables.{Tables}
use Rattle.verify.specs.Chains.{depth}
use Rattle.verify.specs.Flow.{greatest, rank, rank_of_place, rises, raised, raised_all, rises_any, raised_kinds, rises_kinds, met, rises_in, place_at}
use Rattle.verify.specs.Frames.{Kinds}
use Rattle.verify.specs.Joins.{joined}
use Rattle.verify.specs.Kinds.{same_kind, same_number}
use Rattle.verify.specs.Shapes.{place_of}
use Rattle.verify.specs.Types.{item_shape, item_of_class}
use Rattle.verify.specs.Typings.{Table}
use Rattle.verify.specs.Waiting.{one_if, count_of}
use Rattle.verify.proofs.Raises.{kinds_stay}

pub many : ℕ → ℕ
many zero = 0
many (suc n) = greatest + many n

abbrev pub ranks : Tables → List Kind → ℕ
ranks t [] = 0
ranks t (k ∷ ks) = rank t k + ranks t ks

pub weight_of : Tables → Kinds → ℕ
weight_of t a = ranks t a.registers + rank t a.result + rank t a.caught + rank t a.receiver

pub weight_in : Tables → ℕ → Option Kinds → ℕ
weight_in t m None = suc (many m + greatest + greatest + greatest)
weight_in t m (Some a) = weight_of t a

-- how far the frames of a table can rise
pub weight : Tables → ℕ → Table → ℕ
weight t m x = sum_by (weight_in t m) x

-- ---- ranks

plus_most : (a b c d : ℕ) → a ≤ b → c ≤ d → a + c ≤ b + d
plus_most a b c d h k = omega arith

plus_left : (a b c d : ℕ) → a < b → c ≤ d → a + c < b + d
plus_left a b c d h k = omega arith

plus_right : (a b c d : ℕ) → a ≤ b → c < d → a + c < b + d
plus_right a b c d h k = omega arith

least_of : (a b : ℕ) → min a b ≤ b
least_of a b = omega arith

if_at_most : (c : Bool) (n : ℕ) → n ≤ greatest → (if c then 2 else n) ≤ greatest
if_at_most true n h = omega arith
if_at_most false n h = h

place_at_most : (t : Tables) (i p : Option ℕ) → rank_of_place t i p ≤ greatest
place_at_most t i None = omega arith
place_at_most t i (Some c) = least_of (min (depth t.chains c + depth t.chains c) greatest + (if same_number i (item_of_class t c) then 4 else 5)) greatest

at_most : (t : Tables) (k : Kind) → rank t k ≤ greatest
at_most t kind.Undefined = omega arith
at_most t (kind.Program c) = least_of (depth t.chains c + 2) greatest
at_most t (kind.Array n i) = if_at_most (nat_eq n 1 && same_number i t.object) (rank_of_place t i (place_of (item_shape t i))) (place_at_most t i (place_of (item_shape t i)))
at_most t kind.Null = omega arith
at_most t kind.Zero = omega arith
at_most t kind.Word = omega arith
at_most t kind.WideLow = omega arith
at_most t kind.WideHigh = omega arith
at_most t (kind.Fresh c p) = omega arith
at_most t kind.FreshThis = omega arith
at_most t kind.Reference = omega arith

sum_at_most : (t : Tables) (ks : List Kind) → ranks t ks ≤ many (length ks)
unfolding many
sum_at_most t [] = omega arith
sum_at_most t (k ∷ ks) = plus_most (rank t k) greatest (ranks t ks) (many (length ks)) (at_most t k) (sum_at_most t ks)

-- ---- what rises falls in rank

lower_if : (b c : Bool) (j o : Kind) (t : Tables) → (c ≡ true → rank t j < rank t o) → rank t (if b then o else if c then j else o) ≤ rank t o
lower_if true c j o t h = omega arith
lower_if false true j o t h = let k = h refl in omega (arith, k)
lower_if false false j o t h = omega arith

lowest_if : (b c : Bool) (j o : Kind) (t : Tables) → (c ≡ true → rank t j < rank t o) → (if b then false else c) ≡ true → rank t (if b then o else if c then j else o) < rank t o
lowest_if true c j o t h e = absurd (cc)
lowest_if false true j o t h e = h refl
lowest_if false false j o t h e = absurd (cc)

lower : (t : Tables) (k o : Kind) → rank t (raised t k o) ≤ rank t o
lower t k o = lower_if (same_kind o k) (nat_lt (rank t (joined t o k)) (rank t o)) (joined t o k) o t (λ e. ltb-true _ _ e)

lowest : (t : Tables) (k o : Kind) → rises t k o ≡ true → rank t (raised t k o) < rank t o
lowest t k o e = lowest_if (same_kind o k) (nat_lt (rank t (joined t o k)) (rank t o)) (joined t o k) o t (λ e. ltb-true _ _ e) e

lower_all : (t : Tables) (ks os : List Kind) → ranks t (raised_all t ks os) ≤ ranks t os
lower_all t [] [] = omega arith
lower_all t [] (o ∷ os) = omega arith
lower_all t (k ∷ ks) [] = omega arith
lower_all t (k ∷ ks) (o ∷ os) = plus_most (rank t (raised t k o)) (rank t o) (ranks t (raised_all t ks os)) (ranks t os) (lower t k o) (lower_all t ks os)

lowest_all : (t : Tables) (ks os : List Kind) → rises_any t ks os ≡ true → ranks t (raised_all t ks os) < ranks t os
lowest_all t [] [] e = absurd (cc)
lowest_all t [] (o ∷ os) e = absurd (cc)
lowest_all t (k ∷ ks) [] e = absurd (cc)
lowest_all t (k ∷ ks) (o ∷ os) e = elim (or_cases (rises t k o) (rises_any t ks os) e) [
  | inl p ↦ plus_left (rank t (raised t k o)) (rank t o) (ranks t (raised_all t ks os)) (ranks t os) (lowest t k o p) (lower_all t ks os)
  | inr p ↦ plus_right (rank t (raised t k o)) (rank t o) (ranks t (raised_all t ks os)) (ranks t os) (lower t k o) (lowest_all t ks os p)
]

lowest_kinds : (t : Tables) (a o : Kinds) → rises_kinds t a o ≡ true → weight_of t (raised_kinds t a o) < weight_of t o
unfolding weight_of
lowest_kinds t a o e =
    let r = lower_all t a.registers o.registers in
    let x = lower t a.result o.result in
    let y = lower t a.caught o.caught in
    let z = lower t a.receiver o.receiver in
    elim (or_cases (rises_any t a.registers o.registers || rises t a.result o.result || rises t a.caught o.caught) (rises t a.receiver o.receiver) e) [
      | inr p ↦ let q = lowest t a.receiver o.receiver p in omega (arith, r, x, y, q)
      | inl e1 ↦ elim (or_cases (rises_any t a.registers o.registers || rises t a.result o.result) (rises t a.caught o.caught) e1) [
        | inr p ↦ let q = lowest t a.caught o.caught p in omega (arith, r, x, z, q)
        | inl e2 ↦ elim (or_cases (rises_any t a.registers o.registers) (rises t a.result o.result) e2) [
          | inr p ↦ let q = lowest t a.result o.result p in omega (arith, r, y, z, q)
          | inl p ↦ let q = lowest_all t a.registers o.registers p in omega (arith, x, y, z, q)
        ]
      ]
    ]

-- ---- what arrives

met_lowest : (t : Tables) (m : ℕ) (a : Kinds) (o : Option Kinds) → length a.registers ≡ m → rises_in t a o ≡ true → weight_in t m (Some (met t a o)) < weight_in t m o
unfolding weight_in weight_of
met_lowest t m a None w e =
    let r = sum_at_most t a.registers in
    let r' : ranks t a.registers ≤ many m = subst (λ k. ranks t a.registers ≤ many k) w r in
    let x = at_most t a.result in
    let y = at_most t a.caught in
    let z = at_most t a.receiver in
    omega (arith, r', x, y, z)
met_lowest t m a (Some o) w e = lowest_kinds t a o e

met_stays : (t : Tables) (m : ℕ) (a : Kinds) (o : Option Kinds) → rises_in t a o ≡ false → weight_in t m (Some (met t a o)) ≡ weight_in t m o
met_stays t m a None e = absurd (cc)
met_stays t m a (Some o) e = ap (λ x. weight_in t m (Some x)) (kinds_stay t a o e)

count_if : (c : Bool) → one_if c ≤ 1
count_if true = omega arith
count_if false = omega arith

counts_one : (ws : List Bool) (q : ℕ) → count_of (slice_set ws q true) ≤ count_of ws + 1
counts_one ws q = elim (cases_lt q (length ws)) [
  | inl lt ↦ let s : sum_by one_if (set ws q true) + one_if (get_or ws q false) ≡ sum_by one_if ws + 1 = sum_by-set one_if ws q true false lt in omega (arith, s)
  | inr le ↦ let s : count_of (slice_set ws q true) ≡ count_of ws = ap count_of (set_past ws q true le) in omega (arith, s)
]

pub weight_falls : (t : Tables) (m q : ℕ) (a : Kinds) (x : Table) (ws : List Bool) (o : Option Kinds) → q < length x → place_at x q ≡ o → length a.registers ≡ m
    → weight t m (slice_set x q (Some (met t a o))) + count_of (if rises_in t a o then slice_set ws q true else ws) ≤ weight t m x + count_of ws
unfolding weight
weight_falls t m q a x ws o lt at w = go (rises_in t a o) refl
  where
    s : sum_by (weight_in t m) (set x q (Some (met t a o))) + weight_in t m (get_or x q None) ≡ sum_by (weight_in t m) x + weight_in t m (Some (met t a o))
    s = sum_by-set (weight_in t m) x q (Some (met t a o)) None lt

    s' : sum_by (weight_in t m) (set x q (Some (met t a o))) + weight_in t m o ≡ sum_by (weight_in t m) x + weight_in t m (Some (met t a o))
    s' = subst (λ y. sum_by (weight_in t m) (set x q (Some (met t a o))) + weight_in t m y ≡ sum_by (weight_in t m) x + weight_in t m (Some (met t a o))) at s

    go : (c : Bool) → rises_in t a o ≡ c → sum_by (weight_in t m) (slice_set x q (Some (met t a o))) + count_of (if c then slice_set ws q true else ws) ≤ sum_by (weight_in t m) x + count_of ws
    go true e = let l = met_lowest t m a o w e in let c = counts_one ws q in omega (arith, s', l, c)
    go false e = let l = met_stays t m a o e in omega (arith, s', l)
