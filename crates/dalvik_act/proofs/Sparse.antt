-- The target of a key, by halves and by the definition; the keys ascend.
use Rattle.std.proofs.Common.{◌≡◌, ℕ, zero, suc, ◌<◌, ◌≤◌, Bool, true, false, true≢false, ◌⊎◌, inl, inr, List, [], ◌∷◌, length, nat_eq, eqb-true, arith, ap, refl, sym, ◌∙◌}
use Rattle.std.specs.Prelude.{ℤ, ◌<ℤ◌, ◌&&◌, ◌||◌, Some, None, int_lt, slice_get, slice_index_or, cond}
use Rattle.std.specs.List.{AllWithin}
use Rattle.std.specs.List.Sorted.{IsNonDecreasingBy}
use Rattle.std.specs.Ordering.{MatchOrdering, int_cmp, ordering_index}
use Rattle.std.specs.Cmp.{int_ranks}
use Rattle.dalvik_act.specs.Acting.{are_keys}
use Rattle.std.specs.declared.cmp.Ordering.{Ordering}
use Rattle.std.specs.declared.cmp.Ordering.TheVariants.{Less, Equal, Greater}
use Rattle.std.proofs.lemmas.Int.{ints}
use Rattle.std.proofs.lemmas.Bool.{cases_lt}
use Rattle.insn_set.specs.Spelling.{keys_ascend}
use Rattle.dalvik_defs.specs.ActPlain.{switch_target}

first_half : (a b : Bool) → (a && b) ≡ true → a ≡ true
first_half true b e = refl
first_half false b e = e

second_half : (a b : Bool) → (a && b) ≡ true → b ≡ true
second_half true b e = e
second_half false b e = absurd (true≢false (sym e))

later : (k : ℤ) (ks : List ℤ) → keys_ascend (k ∷ ks) ≡ true → keys_ascend ks ≡ true
later k [] e = refl
later k (j ∷ ks) e = second_half (int_lt k j) (keys_ascend (j ∷ ks)) e

chain : (a b c : ℤ) → int_lt a b ≡ true → int_lt b c ≡ true → int_lt a c ≡ true
chain a b c e f = grind (arith, ints)

-- a key is below each later one
below : (k : ℤ) (ks : List ℤ) (i : ℕ) (d : ℤ) → keys_ascend (k ∷ ks) ≡ true → i < length ks → int_lt k (slice_index_or ks i d) ≡ true
below k [] i d e h = absurd (omega arith)
below k (j ∷ ks) zero d e h = first_half (int_lt k j) (keys_ascend (j ∷ ks)) e
below k (j ∷ ks) (suc i) d e h = chain k j (slice_index_or ks i d) (first_half (int_lt k j) (keys_ascend (j ∷ ks)) e) (below j ks i d (second_half (int_lt k j) (keys_ascend (j ∷ ks)) e) (omega arith))

itself : (a : ℤ) → int_lt a a ≡ false
itself a = grind (arith, ints)

either : (a b : Bool) → b ≡ true → (a || b) ≡ true
either true b e = refl
either false b e = e

neither : (a b : Bool) → a ≡ false → b ≡ false → (a || b) ≡ false
neither true b e f = e
neither false b e f = f

step : (z k : ℤ) (ks : List ℤ) (t : ℕ) (ts : List ℕ) → int_lt k z ≡ true → switch_target z (k ∷ ks) (t ∷ ts) ≡ switch_target z ks ts
step z k ks t ts e = ap (λ (b : Bool). elim b [ true ↦ switch_target z ks ts | false ↦ Some t ]) (either (int_lt z k) (int_lt k z) e)

-- the target at the place of the key
pub found : (z : ℤ) (ks : List ℤ) (ts : List ℕ) (i : ℕ) → keys_ascend ks ≡ true → length ks ≡ length ts → i < length ks → ((d : ℤ) → slice_index_or ks i d ≡ z) → switch_target z ks ts ≡ slice_get ts i
found z [] ts i e l h s = absurd (omega arith)
found z (k ∷ ks) [] i e l h s = absurd (omega arith)
found z (k ∷ ks) (t ∷ ts) zero e l h s =
    let same : k ≡ z = s z in
    let up : int_lt z k ≡ false = ap (λ (y : ℤ). int_lt z y) same ∙ itself z in
    let down : int_lt k z ≡ false = ap (λ (y : ℤ). int_lt y z) same ∙ itself z in
    ap (λ (b : Bool). elim b [ true ↦ switch_target z ks ts | false ↦ Some t ]) (neither (int_lt z k) (int_lt k z) up down)
found z (k ∷ ks) (t ∷ ts) (suc i) e l h s =
    let less : int_lt k z ≡ true = ap (int_lt k) (sym (s z)) ∙ below k ks i z e (omega arith) in
    step z k ks t ts less ∙ found z ks ts i (later k ks e) (omega arith) (omega arith) s

-- no target where no key is the number
pub missed : (z : ℤ) (ks : List ℤ) (ts : List ℕ) → ((i : ℕ) → i < length ks → (int_lt z (slice_index_or ks i z) || int_lt (slice_index_or ks i z) z) ≡ true) → switch_target z ks ts ≡ None
missed z [] ts f = refl
missed z (k ∷ ks) [] f = refl
missed z (k ∷ ks) (t ∷ ts) f =
    ap (λ (b : Bool). elim b [ true ↦ switch_target z ks ts | false ↦ Some t ]) (f 0 (omega arith))
    ∙ missed z ks ts (λ i h. f (suc i) (omega arith))

-- ---- where the search finds nothing

-- each key is below each later one
rise : (ks : List ℤ) (i j : ℕ) (d : ℤ) → keys_ascend ks ≡ true → i < j → j < length ks → int_lt (slice_index_or ks i d) (slice_index_or ks j d) ≡ true
rise [] i j d e h k = absurd (omega arith)
rise (x ∷ ks) zero zero d e h k = absurd (omega arith)
rise (x ∷ ks) zero (suc j) d e h k = below x ks j d e (omega arith)
rise (x ∷ ks) (suc i) zero d e h k = absurd (omega arith)
rise (x ∷ ks) (suc i) (suc j) d e h k = rise ks i j d (later x ks e) (omega arith) (omega arith)

ranked : (a b c d : Bool) → (c ≡ true → a ≡ true) → (b ≡ true → d ≡ true) → ordering_index (cond a Less (cond b Greater Equal)) ≤ ordering_index (cond c Less (cond d Greater Equal))
ranked true b c d f g = omega arith
ranked false b true d f g = absurd (true≢false (sym (f refl)))
ranked false true false true f g = omega arith
ranked false true false false f g = absurd (true≢false (sym (g refl)))
ranked false false false d f g = at d
  where
    at : (d : Bool) → 1 ≤ ordering_index (cond d Greater Equal)
    at true = omega arith
    at false = omega arith

rank : (a b z : ℤ) → int_lt a b ≡ true → ordering_index (int_cmp a z) ≤ ordering_index (int_cmp b z)
rank a b z e = ranked (int_lt a z) (int_lt z a) (int_lt b z) (int_lt z b) (λ f. chain a b z e f) (λ f. chain z a b f e)

ascending : (z : ℤ) (ks : List ℤ) → keys_ascend ks ≡ true → IsNonDecreasingBy (λ (y : ℤ). ordering_index (int_cmp y z)) ks
ascending z ks e i j d h k = elim (cases_lt i j) [
  | inl l ↦ rank (slice_index_or ks i d) (slice_index_or ks j d) z (rise ks i j d e l k)
  | inr g ↦ let same : i ≡ j = omega arith in let even = ap (λ (m : ℕ). ordering_index (int_cmp (slice_index_or ks m d) z)) same in omega arith
]

unequal : (less more : Bool) → (cond less Less (cond more Greater Equal) ≡ Less) ⊎ (cond less Less (cond more Greater Equal) ≡ Greater) → (more || less) ≡ true
unequal true true h = refl
unequal true false h = refl
unequal false true h = refl
unequal false false (inl e) = cc
unequal false false (inr e) = cc

-- no target where the search finds no place
pub absent : (z : ℤ) (ks : List ℤ) (ts : List ℕ) (at : ℕ) → keys_ascend ks ≡ true
    → (IsNonDecreasingBy (λ (y : ℤ). ordering_index (int_cmp y z)) ks → AllWithin (λ (y : ℤ). int_cmp y z ≡ Less) ks 0 at × AllWithin (λ (y : ℤ). int_cmp y z ≡ Greater) ks at (length ks))
    → switch_target z ks ts ≡ None
absent z ks ts at e f =
    let parts = f (ascending z ks e) in
    missed z ks ts (λ i h. elim (cases_lt i at) [
      | inl l ↦ unequal (int_lt (slice_index_or ks i z) z) (int_lt z (slice_index_or ks i z)) (inl (parts.0 i z (omega arith) l))
      | inr g ↦ unequal (int_lt (slice_index_or ks i z) z) (int_lt z (slice_index_or ks i z)) (inr (parts.1 i z g h))
    ])

match_equal : (A B C : Type 0) (o : Ordering) → MatchOrdering o A B C → o ≡ Equal → B
match_equal A B C Less m e = absurd (cc)
match_equal A B C Equal m e = m
match_equal A B C Greater m e = absurd (cc)

pub equal_is : (a b : ℤ) → int_cmp a b ≡ Equal → a ≡ b
equal_is a b e = match_equal (a <ℤ b) (a ≡ b) (b <ℤ a) (int_cmp a b) (int_ranks a b) e

-- the two halves of a switch that is well formed
pub as_many : (ks : List ℤ) (ts : List ℕ) → are_keys ks ts ≡ true → length ks ≡ length ts
as_many ks ts e = eqb-true (length ks) (length ts) (first_half (nat_eq (length ks) (length ts)) (keys_ascend ks) e)

pub rising : (ks : List ℤ) (ts : List ℕ) → are_keys ks ts ≡ true → keys_ascend ks ≡ true
rising ks ts e = second_half (nat_eq (length ks) (length ts)) (keys_ascend ks) e
