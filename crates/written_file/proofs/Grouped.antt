-- Members by new number, those of the first group before the others: the order of the plan is that of the written class.
use Rattle.std.proofs.Common.{◌≡◌, ◌+◌, ℕ, suc, Bool, true, false, List, [], ◌∷◌, ◌++◌, map, refl, sym, ap, subst, ◌∙◌, arith, Some}
use Rattle.std.specs.Prelude.{nat_eq, nat_lt, slice_get, sum_by, if◌then◌else◌}
use Rattle.std.specs.List.{AllByRecursion}
use Rattle.std.proofs.lemmas.List.Sums.{sum_by-cons, sum_by-append}
use Rattle.lemmas.proofs.Bools.{neither_of}
use Rattle.program_model.specs.MemberRules.{in_groups}
use Rattle.write_laws.proofs.Ascending.{is_at}
use Rattle.code_write.specs.Pairs.{Numbered, is_before, in_order}
use Rattle.dex_write.specs.Plans.{spot, spot_where, is_same}
use Rattle.dex_defs.specs.Written as written
use Rattle.written_file.proofs.Places.{has}
use Rattle.written_file.proofs.Sorting.{Differ, Once, once_of, differ_of, order_sum, order_all, Agrees, order_same, before_same, those, two_groups}

abbrev pub firsts : List Numbered → List ℕ
firsts xs = map (λ a. a.0) xs

sum_map : {X Y : Type 0} (f : Y → ℕ) (g : X → Y) (xs : List X) → sum_by f (map g xs) ≡ sum_by (λ x. f (g x)) xs
sum_map f g [] = refl
sum_map f g (x ∷ xs) = omega (arith, sum_by-cons f (g x) (map g xs), sum_by-cons (λ y. f (g y)) x xs, sum_map f g xs)

all_both : {X : Type 0} (P : X → Type 0) (xs ys : List X) → AllByRecursion P xs → AllByRecursion P ys → AllByRecursion P (xs ++ ys)
all_both P [] ys a b = b
all_both P (x ∷ xs) ys a b = (a.0, all_both P xs ys a.1 b)

map_both : {X Y : Type 0} (f : X → Y) (xs ys : List X) → map f (xs ++ ys) ≡ map f xs ++ map f ys
map_both f [] ys = refl
map_both f (x ∷ xs) ys = ap (λ l. f x ∷ l) (map_both f xs ys)

-- the new numbers of those of a group, with their places, of which the first is this
abbrev pub group_from : {X : Type 0} → (X → ℕ) → (X → Bool) → Bool → ℕ → List X → List Numbered
group_from num first wanted place [] = []
group_from num first wanted place (x ∷ xs) = spot_where (is_same wanted (first x)) (spot (num x) place) ++ group_from num first wanted (suc place) xs

-- what a number with a place stands for
pub record Spot {X : Type 0} (num : X → ℕ) (first : X → Bool) (all : List X) (wanted : Bool) (a : Numbered) : Type 0 where
  pub x : X
  pub is : slice_get all a.1 ≡ Some x
  pub number : a.0 ≡ num x
  pub group : first x ≡ wanted

module _ {X : Type 0} (num : X → ℕ) (first : X → Bool) (all : List X) (g : ℕ → X) (got : (k : ℕ) (x : X) → slice_get all k ≡ Some x → g k ≡ x) where
  abbrev low : X → X → Bool
  low x y = nat_lt (num x) (num y)

  abbrev below : X → X → Bool
  below x y = in_groups (first x) (first y) (nat_lt (num x) (num y))

  -- these are those from a place on
  abbrev Aligned : ℕ → List X → Type 0
  Aligned place xs = (k : ℕ) (x : X) → slice_get xs k ≡ Some x → slice_get all (place + k) ≡ Some x

  next_aligned : (place : ℕ) (x : X) (xs : List X) → Aligned place (x ∷ xs) → Aligned (suc place) xs
  next_aligned place x xs h k y e = let s : place + suc k ≡ suc place + k = omega arith in subst (λ (j : ℕ). slice_get all j ≡ Some y) s (h (suc k) y e)

  here_aligned : (place : ℕ) (x : X) (xs : List X) → Aligned place (x ∷ xs) → slice_get all place ≡ Some x
  here_aligned place x xs h = let s : place + 0 ≡ place = omega arith in subst (λ (j : ℕ). slice_get all j ≡ Some x) s (h 0 x refl)

  abbrev IsSpot : Bool → Numbered → Type 0
  IsSpot wanted a = Spot num first all wanted a

  spots : (wanted : Bool) (place : ℕ) (xs : List X) → Aligned place xs → AllByRecursion (IsSpot wanted) (group_from num first wanted place xs)
  spots wanted place [] h = tt
  spots wanted place (x ∷ xs) h = by_group wanted (first x) refl (spots wanted (suc place) xs (next_aligned place x xs h))
    where
      by_group : (w t : Bool) → first x ≡ t → AllByRecursion (IsSpot w) (group_from num first w (suc place) xs) → AllByRecursion (IsSpot w) (spot_where (is_same w (first x)) (spot (num x) place) ++ group_from num first w (suc place) xs)
      by_group true true t rest = rw t (record { x = x; is = here_aligned place x xs h; number = refl; group = t }, rest)
      by_group true false t rest = rw t rest
      by_group false true t rest = rw t rest
      by_group false false t rest = rw t (record { x = x; is = here_aligned place x xs h; number = refl; group = t }, rest)

  groups_sum : (n place : ℕ) (xs : List X) → sum_by (λ a. is_at n a.0) (group_from num first true place xs) + sum_by (λ a. is_at n a.0) (group_from num first false place xs) ≡ sum_by (λ x. is_at n (num x)) xs
  groups_sum n place [] = omega arith
  groups_sum n place (x ∷ xs) = by_group (first x) refl (groups_sum n (suc place) xs)
    where
      by_group : (t : Bool) → first x ≡ t → sum_by (λ a. is_at n a.0) (group_from num first true (suc place) xs) + sum_by (λ a. is_at n a.0) (group_from num first false (suc place) xs) ≡ sum_by (λ y. is_at n (num y)) xs
          → sum_by (λ a. is_at n a.0) (spot_where (is_same true (first x)) (spot (num x) place) ++ group_from num first true (suc place) xs) + sum_by (λ a. is_at n a.0) (spot_where (is_same false (first x)) (spot (num x) place) ++ group_from num first false (suc place) xs) ≡ sum_by (λ y. is_at n (num y)) (x ∷ xs)
      by_group true t e = rw t (omega (arith, e, sum_by-cons (λ (a : Numbered). is_at n a.0) (spot (num x) place) (group_from num first true (suc place) xs), sum_by-cons (λ y. is_at n (num y)) x xs))
      by_group false t e = rw t (omega (arith, e, sum_by-cons (λ (a : Numbered). is_at n a.0) (spot (num x) place) (group_from num first false (suc place) xs), sum_by-cons (λ y. is_at n (num y)) x xs))

  group_made : (wanted : Bool) (place : ℕ) (xs : List X) → Aligned place xs → map (λ a. g a.1) (group_from num first wanted place xs) ≡ those first low wanted xs
  group_made true place [] h = refl
  group_made false place [] h = refl
  group_made true place (x ∷ xs) h = by_group (first x) refl (group_made true (suc place) xs (next_aligned place x xs h))
    where
      by_group : (t : Bool) → first x ≡ t → map (λ a. g a.1) (group_from num first true (suc place) xs) ≡ those first low true xs → map (λ a. g a.1) (spot_where (is_same true (first x)) (spot (num x) place) ++ group_from num first true (suc place) xs) ≡ (if first x then x ∷ those first low true xs else those first low true xs)
      by_group true t e = rw t (ap (λ y. y ∷ map (λ a. g a.1) (group_from num first true (suc place) xs)) (got place x (here_aligned place x xs h)) ∙ ap (λ l. x ∷ l) e)
      by_group false t e = rw t e
  group_made false place (x ∷ xs) h = by_group (first x) refl (group_made false (suc place) xs (next_aligned place x xs h))
    where
      by_group : (t : Bool) → first x ≡ t → map (λ a. g a.1) (group_from num first false (suc place) xs) ≡ those first low false xs → map (λ a. g a.1) (spot_where (is_same false (first x)) (spot (num x) place) ++ group_from num first false (suc place) xs) ≡ (if first x then those first low false xs else x ∷ those first low false xs)
      by_group true t e = rw t e
      by_group false t e = rw t (ap (λ y. y ∷ map (λ a. g a.1) (group_from num first false (suc place) xs)) (got place x (here_aligned place x xs h)) ∙ ap (λ l. x ∷ l) e)

  -- the numbers of the plan
  abbrev pub in_plan : List Numbered
  in_plan = in_order (group_from num first true 0 all) ++ in_order (group_from num first false 0 all)

  all_aligned : Aligned 0 all
  all_aligned k x e = let s : k ≡ 0 + k = omega arith in subst (λ (j : ℕ). slice_get all j ≡ Some x) s e

  plan_once : Once (map num all) → Once (firsts in_plan)
  plan_once o n =
      let ts : List Numbered = group_from num first true 0 all in
      let fs : List Numbered = group_from num first false 0 all in
      omega (
        arith,
        o n,
        sum_map (is_at n) (λ (a : Numbered). a.0) (in_order ts ++ in_order fs),
        sum_by-append (λ (a : Numbered). is_at n a.0) (in_order ts) (in_order fs),
        order_sum (λ a. is_at n a.0) ts,
        order_sum (λ a. is_at n a.0) fs,
        groups_sum n 0 all,
        sum_map (is_at n) num all,
      )

  pub plan_differs : Differ (map num all) → Differ (firsts in_plan)
  plan_differs d = differ_of (firsts in_plan) (plan_once (once_of (map num all) d))

  group_once : (wanted : Bool) → Once (map num all) → Once (firsts (group_from num first wanted 0 all))
  group_once true o n = omega (arith, o n, sum_map (is_at n) (λ (a : Numbered). a.0) (group_from num first true 0 all), groups_sum n 0 all, sum_map (is_at n) num all)
  group_once false o n = omega (arith, o n, sum_map (is_at n) (λ (a : Numbered). a.0) (group_from num first false 0 all), groups_sum n 0 all, sum_map (is_at n) num all)

  agreeing : (wanted : Bool) (ks : List Numbered) → AllByRecursion (IsSpot wanted) ks → Differ (firsts ks) → Agrees (λ a. g a.1) below ks
  agreeing wanted [] s d = tt
  agreeing wanted (a ∷ ks) s d = (each ks s.1 d.0, agreeing wanted ks s.1 d.1)
    where
      same_group : (w t : Bool) → in_groups w w t ≡ t
      same_group true t = refl
      same_group false t = refl

      each : (bs : List Numbered) → AllByRecursion (IsSpot wanted) bs → has a.0 (firsts bs) ≡ false → AllByRecursion (λ b. is_before a b ≡ below (g a.1) (g b.1)) bs
      each [] t e = tt
      each (b ∷ bs) t e =
          let both = neither_of (nat_eq a.0 b.0) (has a.0 (firsts bs)) e in
          let x : g a.1 ≡ s.0.x = got a.1 s.0.x s.0.is in
          let y : g b.1 ≡ t.0.x = got b.1 t.0.x t.0.is in
          let one : below (g a.1) (g b.1) ≡ nat_lt a.0 b.0 = rw (x, y, s.0.group, t.0.group) (same_group wanted (nat_lt (num s.0.x) (num t.0.x)) ∙ (ap (λ (n : ℕ). nat_lt n (num t.0.x)) (sym s.0.number) ∙ ap (λ (n : ℕ). nat_lt a.0 n) (sym t.0.number))) in
          (before_same a b both.0 ∙ sym one, each bs t.1 both.1)

  group_ordered : (wanted : Bool) → Differ (map num all) → map (λ a. g a.1) (in_order (group_from num first wanted 0 all)) ≡ written.in_order below (those first low wanted all)
  group_ordered wanted d =
      order_same (λ a. g a.1) below (group_from num first wanted 0 all) (agreeing wanted (group_from num first wanted 0 all) (spots wanted 0 all all_aligned) (differ_of (firsts (group_from num first wanted 0 all)) (group_once wanted (once_of (map num all) d))))
      ∙ ap (λ l. written.in_order below l) (group_made wanted 0 all all_aligned)

  -- they stand for the members in their order
  pub plan_ordered : Differ (map num all) → map (λ a. g a.1) in_plan ≡ written.in_order below all
  plan_ordered d =
      map_both (λ (a : Numbered). g a.1) (in_order (group_from num first true 0 all)) (in_order (group_from num first false 0 all))
      ∙ ap (λ l. l ++ map (λ a. g a.1) (in_order (group_from num first false 0 all))) (group_ordered true d)
      ∙ ap (λ l. written.in_order below (those first low true all) ++ l) (group_ordered false d)
      ∙ sym (two_groups first low all)

  pub group_spots : (wanted : Bool) → AllByRecursion (IsSpot wanted) (in_order (group_from num first wanted 0 all))
  group_spots wanted = order_all (IsSpot wanted) (group_from num first wanted 0 all) (spots wanted 0 all all_aligned)
