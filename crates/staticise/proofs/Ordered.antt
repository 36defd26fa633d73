-- Methods in their order: direct ones first, and each group by number.
use Rattle.std.proofs.Common.{◌≡◌, inl, inr, ℕ, zero, suc, ◌+◌, ◌<◌, ◌≤◌, ◌^◌, Bool, true, false, List, [], ◌∷◌, map, get_or, Some, refl, sym, ap, ◌∙◌, subst, arith}
use Rattle.std.specs.Prelude.{nat_eq, nat_lt, cond, count_by, slice_get, All, if◌then◌else◌}
use Rattle.std.specs.List.{list_all}
use Rattle.std.specs.List.Sorted.{IsNonDecreasingBy, IsPermutation}
use Rattle.std.proofs.lemmas.Bool.{ltb-false}
use Rattle.std.proofs.lemmas.List.Sums.{sum_by-cons}
use Rattle.lemmas.proofs.Bools.{and_both}
use Rattle.lemmas.proofs.Lists.{got_short, get_map}
use Rattle.lemmas.proofs.Options.{before_map, some_same}
use Rattle.std.proofs.lemmas.Option.{slice_get-get_or}
use Rattle.program_model.specs.MemberRules.{is_direct, in_groups, methods_in_order}
use Rattle.program_model.specs.Neighbours.{neighbours}
use Rattle.program_model.specs.ProgramRules.{is_well_formed}
use Rattle.program_model.specs.declared.program.Class.{Class}
use Rattle.program_model.specs.declared.program.Method.{Method}
use Rattle.program_model.specs.declared.program.Program.{Program}
use Rattle.class_defs.proofs.Positions.{number_test}
use Rattle.staticise.specs.Ordering.{order_of, IsOrdered, AreOwn}
use Rattle.loose_methods.proofs.Placed.{entry_of}
use Rattle.staticise.proofs.Few.{few_methods}
use Rattle.loose_methods.proofs.Marks.{same_or, differ_test}
use Rattle.loose_methods.proofs.Once.{own_once}
use Rattle.std.proofs.lemmas.List.Sorted.{sum_by-IsPermutation, All-permutation}

abbrev flag : Bool → ℕ
flag b = cond b 1 0

module _ (p : Program) where
  pair_fits : (a b : Method) → order_of p a ≤ order_of p b → (a.name ≡ b.name → ⊥) → b.name < 2 ^ 32 → methods_in_order p (a, b) ≡ true
  pair_fits a b le differ short = by (is_direct p a) (is_direct p b) le
    where
      rises : a.name ≤ b.name → nat_lt a.name b.name ≡ true
      rises l = test (nat_lt a.name b.name) refl
        where
          test : (t : Bool) → nat_lt a.name b.name ≡ t → nat_lt a.name b.name ≡ true
          test true e = e
          test false e = let g = ltb-false a.name b.name e in absurd (differ (omega (arith, l, g)))

      by : (x y : Bool) → (if x then 0 else 4294967296) + a.name ≤ (if y then 0 else 4294967296) + b.name → in_groups x y (nat_lt a.name b.name) ≡ true
      by true true l = rises (omega (arith, l))
      by true false l = refl
      by false true l = absurd (let z : 4294967296 + a.name ≤ 0 + b.name = l in let w : b.name < 4294967296 = short in omega (arith, z, w))
      by false false l = rises (omega (arith, l))

  rising_tail : (x : Method) (xs : List Method) → IsNonDecreasingBy (order_of p) (x ∷ xs) → IsNonDecreasingBy (order_of p) xs
  rising_tail x xs r = λ i j d le lt. r (suc i) (suc j) d (omega (arith, le)) (omega (arith, lt))

  abbrev counts : ℕ → List Method → ℕ
  counts n ms = count_by (λ m. nat_eq m.name n) ms

  in_tail : (n : ℕ) (x : Method) (xs : List Method) → counts n xs ≤ counts n (x ∷ xs)
  in_tail n x xs = let s = sum_by-cons (λ (m : Method). cond (nat_eq m.name n) 1 0) x xs in omega (arith, s)

  apart : (x y : Method) (xs : List Method) → ((n : ℕ) → counts n (x ∷ y ∷ xs) ≤ 1) → x.name ≡ y.name → ⊥
  apart x y xs h e =
      let a : flag (nat_eq x.name y.name) ≡ 1 = ap flag (number_test x.name y.name e) in
      let b : flag (nat_eq y.name y.name) ≡ 1 = ap flag (number_test y.name y.name refl) in
      let c = h y.name in
      let s = sum_by-cons (λ (m : Method). cond (nat_eq m.name y.name) 1 0) x (y ∷ xs) in
      let r = sum_by-cons (λ (m : Method). cond (nat_eq m.name y.name) 1 0) y xs in
      omega (arith, a, b, c, s, r)

  pub ordered : (xs : List Method) → ((n : ℕ) → count_by (λ m. nat_eq m.name n) xs ≤ 1) → ((i : ℕ) (m : Method) → slice_get xs i ≡ Some m → m.name < 2 ^ 32) → IsNonDecreasingBy (order_of p) xs → IsOrdered p xs
  ordered [] a s r = record { is = refl }
  ordered (x ∷ []) a s r = record { is = refl }
  ordered (x ∷ y ∷ ys) a s r = record {
    is = and_both (methods_in_order p (x, y)) (list_all (methods_in_order p) (neighbours (y ∷ ys)))
        (pair_fits x y (r 0 1 x (omega arith) (omega arith)) (apart x y ys a) (s 1 y refl))
        (ordered (y ∷ ys) (λ n. let b = in_tail n x (y ∷ ys) in let c = a n in omega (arith, b, c)) (λ i m e. s (suc i) m e) (rising_tail x (y ∷ ys) r)).is;
  }

-- ---- numbers that stand once

all_there : (P : Method → Type 0) (xs : List Method) → All P xs → (i : ℕ) (m : Method) → slice_get xs i ≡ Some m → P m
all_there P [] a i m e = absurd (cc)
all_there P (x ∷ xs) a zero m e = subst P (some_same x m e) (a 0 x (omega arith))
all_there P (x ∷ xs) a (suc i) m e = all_there P xs (λ k d l. a (suc k) d (omega (arith, l))) i m e

all_from : (P : Method → Type 0) (xs : List Method) → ((i : ℕ) (m : Method) → slice_get xs i ≡ Some m → P m) → All P xs
all_from P xs h = λ k d l. h k (get_or xs k d) (slice_get-get_or xs k d l)

pub own_ordered : (p : Program) (xs ys : List Method) → AreOwn xs → IsPermutation xs ys → IsNonDecreasingBy (order_of p) ys → IsOrdered p ys
own_ordered p xs ys a perm r = ordered p ys
    (λ n. let z = sum_by-IsPermutation (λ (m : Method). cond (nat_eq m.name n) 1 0) xs ys perm in let o = a.once n in omega (arith, z, o))
    (all_there (λ m. m.name < 2 ^ 32) ys (All-permutation (λ (m : Method). m.name < 2 ^ 32) xs ys perm a.short)) r

count_none : (n : ℕ) (xs : List Method) → ((i : ℕ) (m : Method) → slice_get xs i ≡ Some m → m.name ≡ n → ⊥) → count_by (λ m. nat_eq m.name n) xs ≡ 0
count_none n [] h = refl
count_none n (x ∷ xs) h =
    let a : flag (nat_eq x.name n) ≡ 0 = ap flag (differ_test x.name n (h 0 x refl)) in
    let b = count_none n xs (λ i m e. h (suc i) m e) in
    let s = sum_by-cons (λ (m : Method). cond (nat_eq m.name n) 1 0) x xs in
    omega (arith, a, b, s)

count_once : (n : ℕ) (xs : List Method) → ((i j : ℕ) (m x : Method) → slice_get xs i ≡ Some m → slice_get xs j ≡ Some x → m.name ≡ x.name → i ≡ j) → count_by (λ m. nat_eq m.name n) xs ≤ 1
count_once n [] h = omega arith
count_once n (x ∷ xs) h = elim (same_or x.name n) [
  | inl s ↦ (
      let b = count_none n xs (λ i m e f. let z : 0 ≡ suc i = h 0 (suc i) x m refl e (s ∙ sym f) in omega (arith, z)) in
      let a : flag (nat_eq x.name n) ≡ 1 = ap flag (number_test x.name n s) in
      let r = sum_by-cons (λ (m : Method). cond (nat_eq m.name n) 1 0) x xs in
      omega (arith, a, b, r)
      )
  | inr k ↦ (
      let b = count_once n xs (λ i j m y e f g. let z : suc i ≡ suc j = h (suc i) (suc j) m y e f g in omega (arith, z)) in
      let a : flag (nat_eq x.name n) ≡ 0 = ap flag (differ_test x.name n k) in
      let r = sum_by-cons (λ (m : Method). cond (nat_eq m.name n) 1 0) x xs in
      omega (arith, a, b, r)
      )
]

-- the methods of a class of a program
pub own_methods : (p : Program) → is_well_formed p ≡ true → (c : ℕ) (k : Class) → slice_get p.classes c ≡ Some k → AreOwn k.methods
own_methods p wf c k e = record {
  once = λ n. count_once n k.methods (λ i j m x f g h. own_once p wf c i j k m x e f g h);
  short = all_from (λ m. m.name < 2 ^ 32) k.methods (λ i m f. let r = entry_of p c i k m wf e f in let l = got_short p.methods m.name r.entry r.is in let few = few_methods p wf in omega (arith, l, few));
}

-- the same with methods of other contents
pub own_mapped : (f : Method → Method) → ((m : Method) → (f m).name ≡ m.name) → (xs : List Method) → AreOwn xs → AreOwn (map f xs)
own_mapped f same xs a = record {
  once = λ n. let z = counted n xs in let o = a.once n in omega (arith, z, o);
  short = all_from (λ m. m.name < 2 ^ 32) (map f xs) (λ i m e. let b = before_map f (slice_get xs i) m (sym (get_map f xs i) ∙ e) in let s : b.0.name < 2 ^ 32 = all_there (λ y. y.name < 2 ^ 32) xs a.short i b.0 b.1.0 in let z = sym (same b.0) ∙ ap (λ (y : Method). y.name) b.1.1 in omega (arith, s, z));
}
  where
    counted : (n : ℕ) (ys : List Method) → count_by (λ m. nat_eq m.name n) (map f ys) ≡ count_by (λ m. nat_eq m.name n) ys
    counted n [] = refl
    counted n (y ∷ ys) =
        let a : flag (nat_eq (f y).name n) ≡ flag (nat_eq y.name n) = ap (λ x. flag (nat_eq x n)) (same y) in
        let b = counted n ys in
        let s = sum_by-cons (λ (m : Method). cond (nat_eq m.name n) 1 0) (f y) (map f ys) in
        let r = sum_by-cons (λ (m : Method). cond (nat_eq m.name n) 1 0) y ys in
        omega (arith, a, b, s, r)
