-- Numbers of the classes, and the tables that lead from them to the ranges.
use Rattle.std.proofs.Common.{◌≡◌, ℕ, zero, suc, ◌+◌, ◌<◌, inl, inr, true, List, [], ◌∷◌, ◌++◌, length, slice_index, Some, refl, sym, ap, subst, ◌∙◌, arith}
use Rattle.std.specs.Prelude.{slice_get}
use Rattle.std.specs.List.{range_with_len}
use Rattle.program_model.specs.declared.program.Program.{Program}
use Rattle.program_model.specs.ProgramRules.{is_well_formed}
use Rattle.class_defs.proofs.WellFormed.{few_classes}
use Rattle.hierarchy.specs.declared.build.Shape.{Shape}
use Rattle.hierarchy.specs.Shapes.{IsMade}
use Rattle.hierarchy.specs.Touring.{IsNumbering, Leads}
use Rattle.hierarchy.proofs.Marks.{before_or_at}
use Rattle.hierarchy.proofs.Placed.{made_fits}
use Rattle.hierarchy.proofs.Ranging.{index_of_get}

-- ---- numbers in turn

pub range_more : (a n : ℕ) → range_with_len a (n + 1) ≡ range_with_len a n ++ (a + n) ∷ []
range_more a zero = let f : a ≡ a + zero = omega arith in ap (λ x. x ∷ []) f
range_more a (suc n) =
    let e : suc n + 1 ≡ suc (n + 1) = omega arith in
    let f : a + 1 + n ≡ a + suc n = omega arith in
    ap (range_with_len a) e ∙ ap (λ l. a ∷ l) (range_more (a + 1) n ∙ ap (λ x. range_with_len (a + 1) n ++ x ∷ []) f)

pub range_get : (a n i : ℕ) → i < n → slice_get (range_with_len a n) i ≡ Some (a + i)
range_get a zero i l = absurd (omega (arith, l))
range_get a (suc n) zero l = let f : a ≡ a + zero = omega arith in ap (λ x. Some x) f
range_get a (suc n) (suc i) l = let f : a + 1 + i ≡ a + suc i = omega arith in range_get (a + 1) n i (omega (arith, l)) ∙ ap (λ x. Some x) f

pub range_length : (a n : ℕ) → length (range_with_len a n) ≡ n
range_length a zero = refl
range_length a (suc n) = ap suc (range_length (a + 1) n)

pub in_turn_numbers : (n : ℕ) (numbers places : List ℕ) → numbers ≡ range_with_len 0 n → places ≡ range_with_len 0 n → IsNumbering n numbers places
in_turn_numbers n numbers places e f = subst (λ l. IsNumbering n l places) (sym e) (subst (IsNumbering n (range_with_len 0 n)) (sym f) (record {
  size = range_length 0 n;
  same = range_length 0 n;
  back = λ c l. twice c l;
  forth = λ k l. twice k l;
}))
  where
    twice : (c : ℕ) → c < n → slice_get (range_with_len 0 n) (slice_index (range_with_len 0 n) c) ≡ Some c
    twice c l = ap (slice_get (range_with_len 0 n)) (index_of_get (range_with_len 0 n) c (0 + c) (range_get 0 n c l)) ∙ (let f : 0 + c ≡ c = omega arith in ap (slice_get (range_with_len 0 n)) f ∙ range_get 0 n c l ∙ ap (λ x. Some x) f)

-- one number more that leads back
pub back_more : (numbers back : List ℕ) (place : ℕ) → slice_get back (slice_index numbers place) ≡ Some place → ((c : ℕ) → c < place → slice_get back (slice_index numbers c) ≡ Some c) → (c : ℕ) → c < place + 1 → slice_get back (slice_index numbers c) ≡ Some c
back_more numbers back place e h c l = elim (before_or_at c place l) [
  | inl b ↦ h c b
  | inr s ↦ ap (λ x. slice_get back (slice_index numbers x)) s ∙ e ∙ ap (λ x. Some x) (sym s)
]

-- ---- the tables of a program

pub leads : (p : Program) (s : Shape) (numbers places : List ℕ) → is_well_formed p ≡ true → IsMade p s → IsNumbering (length p.classes) numbers places → Leads p s.supers.items s.lists.rows s.below.rows s.order.items numbers places
leads p s numbers places h m b =
    let f = made_fits p s h m in
    let long = f.count in
    let few = few_classes p h in
    record {
      supers_are = f.supers;
      lists_are = f.lists;
      long = long;
      few = omega (arith, few);
      ordered = m.order (omega (arith, few, long));
      below = m.lower (omega (arith, few, long));
      ranked = f.ranked;
      numbered = b;
    }
