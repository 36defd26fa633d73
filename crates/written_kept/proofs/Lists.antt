-- Lists: entries of a table, lists in order, and tests of what was put in order.
use Rattle.std.proofs.Common.{◌≡◌, ◌<◌, ◌≤◌, ◌+◌, ◌⊎◌, inl, inr, ℕ, zero, suc, Bool, true, false, cond, List, [], ◌∷◌, ◌++◌, map, refl, sym, ap, ap₂, subst, ◌∙◌, arith, ltb-true, Option, Some, None}
use Rattle.std.specs.Prelude.{nat_eq, nat_lt, slice_get, sum_by, ◌&&◌, ◌||◌, if◌then◌else◌}
use Rattle.std.specs.List.{AllByRecursion, list_all, list_any, flat_map}
use Rattle.std.specs.Cmp.Lexicographic.{bytes_decides}
use Rattle.std.proofs.lemmas.Bool.{eq-eqb, eqb-true, ne_eqb}
use Rattle.std.proofs.lemmas.List.Folds.{list_any-append}
use Rattle.std.proofs.lemmas.List.Sums.{sum_by-cons}
use Rattle.std.proofs.lemmas.List.Sorted.{sum_by-IsPermutation}
use Rattle.lemmas.proofs.Bools.{and_both, and_left, and_right, clash, neither_of, none_or, untrue}
use Rattle.dex_pools.specs.Finds.{Ascends}
use Rattle.dex_pools.specs.declared.used.Named.{Named}
use Rattle.program_model.specs.Distinct.{all_differ, differ_from, same_entry}
use Rattle.program_model.specs.MemberRules.{in_groups}
use Rattle.program_model.specs.Neighbours.{neighbours}
use Rattle.dex_defs.specs.Written.{insert, in_order, one_entry, entries}
use Rattle.write_laws.proofs.Ascending.{is_at}
use Rattle.write_laws.proofs.Marking.{all_left, all_right}
use Rattle.write_laws.proofs.Reordered.{ordered}
use Rattle.written_file.proofs.In.{In}
use Rattle.written_file.proofs.Places.{has, below_tells}
use Rattle.written_file.proofs.Sorting.{Differ, Once, once_of, differ_of}

-- ---- entries

pub entries_all : {X Y : Type 0} (f : X → Y) (t : Y → Bool) (table : List X) (order : List ℕ) → ((n : ℕ) (x : X) → In n order → slice_get table n ≡ Some x → t (f x) ≡ true) → list_all t (entries f table order) ≡ true
entries_all f t table [] each = refl
entries_all {X = X} f t table (n ∷ ns) each = by (slice_get table n) refl (entries_all f t table ns (λ m x i e. each m x (inr i) e))
  where
    by : (o : Option X) → slice_get table n ≡ o → list_all t (entries f table ns) ≡ true → list_all t (entries f table (n ∷ ns)) ≡ true
    by None e rest = subst (λ (o : Option X). list_all t (one_entry f o ++ entries f table ns) ≡ true) (sym e) rest
    by (Some x) e rest = subst (λ (o : Option X). list_all t (one_entry f o ++ entries f table ns) ≡ true) (sym e) (and_both (t (f x)) (list_all t (entries f table ns)) (each n x (inl refl) e) rest)

abbrev weight : {X : Type 0} → (X → ℕ) → Option X → ℕ
weight g None = 0
weight g (Some x) = g x

abbrev heavy : {X : Type 0} → (X → ℕ) → List X → ℕ → ℕ
heavy g table n = weight g (slice_get table n)

entries_sum : {X Y : Type 0} (f : X → Y) (g : Y → ℕ) (table : List X) (order : List ℕ) → sum_by g (entries f table order) ≡ sum_by (heavy (λ x. g (f x)) table) order
entries_sum f g table [] = refl
entries_sum {X = X} f g table (n ∷ ns) = by (slice_get table n) refl (entries_sum f g table ns) ∙ sym (sum_by-cons (heavy (λ x. g (f x)) table) n ns)
  where
    by : (o : Option X) → slice_get table n ≡ o → sum_by g (entries f table ns) ≡ sum_by (heavy (λ x. g (f x)) table) ns → sum_by g (entries f table (n ∷ ns)) ≡ heavy (λ x. g (f x)) table n + sum_by (heavy (λ x. g (f x)) table) ns
    by None e rest = subst (λ (o : Option X). sum_by g (one_entry f o ++ entries f table ns) ≡ weight (λ x. g (f x)) o + sum_by (heavy (λ x. g (f x)) table) ns) (sym e) (rest ∙ omega arith)
    by (Some x) e rest = subst (λ (o : Option X). sum_by g (one_entry f o ++ entries f table ns) ≡ weight (λ x. g (f x)) o + sum_by (heavy (λ x. g (f x)) table) ns) (sym e) (sum_by-cons g (f x) (entries f table ns) ∙ ap (λ (n : ℕ). g (f x) + n) rest)

-- numbers that aren't zero, each less by one
abbrev lower : List ℕ → List ℕ
lower [] = []
lower (zero ∷ ns) = lower ns
lower (suc n ∷ ns) = n ∷ lower ns

next_same : (m n : ℕ) → nat_eq (suc m) (suc n) ≡ nat_eq m n
next_same m n = by (nat_eq m n) refl
  where
    by : (t : Bool) → nat_eq m n ≡ t → nat_eq (suc m) (suc n) ≡ nat_eq m n
    by true e = eq-eqb (suc m) (suc n) (ap suc (eqb-true m n e)) ∙ sym e
    by false e = ne_eqb (suc m) (suc n) (λ s. clash (nat_eq m n) (eq-eqb m n (omega (arith, s))) e) ∙ sym e

lower_counts : (m : ℕ) (ns : List ℕ) → sum_by (is_at m) (lower ns) ≡ sum_by (is_at (suc m)) ns
lower_counts m [] = refl
lower_counts m (zero ∷ ns) = let none : is_at (suc m) 0 ≡ 0 = ap (λ (b : Bool). cond b 1 0) (ne_eqb (suc m) 0 (λ e. absurd (omega (arith, e)))) in omega (arith, none, lower_counts m ns, sum_by-cons (is_at (suc m)) 0 ns)
lower_counts m (suc n ∷ ns) = let one : is_at (suc m) (suc n) ≡ is_at m n = ap (λ (b : Bool). cond b 1 0) (next_same m n) in omega (arith, one, sum_by-cons (is_at m) n (lower ns), lower_counts m ns, sum_by-cons (is_at (suc m)) (suc n) ns)

module _ {X : Type 0} (g : X → ℕ) (x : X) (xs : List X) where
  none_first : (ns : List ℕ) → sum_by (is_at 0) ns ≡ 0 → sum_by (heavy g (x ∷ xs)) ns ≡ sum_by (heavy g xs) (lower ns)
  none_first [] e = refl
  none_first (zero ∷ ns) e = let one : is_at 0 0 ≡ 1 = refl in absurd (omega (arith, e, one, sum_by-cons (is_at 0) 0 ns))
  none_first (suc n ∷ ns) e = sum_by-cons (heavy g (x ∷ xs)) (suc n) ns ∙ ap (λ (k : ℕ). heavy g xs n + k) (none_first ns (omega (arith, e, sum_by-cons (is_at 0) (suc n) ns))) ∙ sym (sum_by-cons (heavy g xs) n (lower ns))

  one_first : (ns : List ℕ) → sum_by (is_at 0) ns ≤ 1 → sum_by (heavy g (x ∷ xs)) ns ≤ g x + sum_by (heavy g xs) (lower ns)
  one_first [] le = omega arith
  one_first (zero ∷ ns) le =
      let one : is_at 0 0 ≡ 1 = refl in
      let first : heavy g (x ∷ xs) 0 ≡ g x = refl in
      omega (arith, first, sum_by-cons (heavy g (x ∷ xs)) 0 ns, none_first ns (omega (arith, le, one, sum_by-cons (is_at 0) 0 ns)))
  one_first (suc n ∷ ns) le =
      let next : heavy g (x ∷ xs) (suc n) ≡ heavy g xs n = refl in
      omega (arith, next, sum_by-cons (heavy g (x ∷ xs)) (suc n) ns, sum_by-cons (heavy g xs) n (lower ns), one_first ns (omega (arith, le, sum_by-cons (is_at 0) (suc n) ns)))

nothing_heavy : {X : Type 0} (g : X → ℕ) (ns : List ℕ) → sum_by (heavy g []) ns ≡ 0
nothing_heavy g [] = refl
nothing_heavy g (n ∷ ns) = let none : heavy g [] n ≡ 0 = refl in omega (arith, none, sum_by-cons (heavy g []) n ns, nothing_heavy g ns)

chosen_most : {X : Type 0} (g : X → ℕ) (table : List X) (ns : List ℕ) → Once ns → sum_by (heavy g table) ns ≤ sum_by g table
chosen_most g [] ns o = omega (arith, nothing_heavy g ns)
chosen_most g (x ∷ xs) ns o = omega (arith, one_first g x xs ns (o 0), chosen_most g xs (lower ns) (λ m. omega (arith, lower_counts m ns, o (suc m))), sum_by-cons g x xs)

-- entries that are chosen once are no more than those that there are
pub entries_most : {X Y : Type 0} (f : X → Y) (g : Y → ℕ) (table : List X) (order : List ℕ) → Once order → sum_by g (entries f table order) ≤ sum_by (λ x. g (f x)) table
entries_most f g table order o = omega (arith, entries_sum f g table order, chosen_most (λ x. g (f x)) table order o)

-- ---- sums

pub sum_map : {X Y : Type 0} (g : Y → ℕ) (f : X → Y) (xs : List X) → sum_by g (map f xs) ≡ sum_by (λ x. g (f x)) xs
sum_map g f [] = refl
sum_map g f (x ∷ xs) = sum_by-cons g (f x) (map f xs) ∙ ap (λ (n : ℕ). g (f x) + n) (sum_map g f xs) ∙ sym (sum_by-cons (λ y. g (f y)) x xs)

pub sum_same : {X : Type 0} (g h : X → ℕ) → ((x : X) → g x ≡ h x) → (xs : List X) → sum_by g xs ≡ sum_by h xs
sum_same g h e [] = refl
sum_same g h e (x ∷ xs) = sum_by-cons g x xs ∙ ap₂ (λ m n. m + n) (e x) (sum_same g h e xs) ∙ sym (sum_by-cons h x xs)

pub sum_ordered : {X : Type 0} (below : X → X → Bool) (g : X → ℕ) (xs : List X) → sum_by g (in_order below xs) ≡ sum_by g xs
sum_ordered below g xs = sum_by-IsPermutation g xs (in_order below xs) (ordered below xs)

-- ---- order

-- of each two, one stands below the other
abbrev pub Total : {X : Type 0} → (X → X → Bool) → List X → Type 0
Total below [] = Unit {0}
Total below (x ∷ xs) = AllByRecursion (λ y. below x y ≡ false → below y x ≡ true) xs × Total below xs

module _ {X : Type 0} (below : X → X → Bool) where
  insert_all : (P : X → Type 0) (x : X) (ys : List X) → P x → AllByRecursion P ys → AllByRecursion P (insert below x ys)
  insert_all P x [] h all = (h, tt)
  insert_all P x (y ∷ ys) h all = by (below x y) (insert_all P x ys h all.1)
    where
      by : (t : Bool) → AllByRecursion P (insert below x ys) → AllByRecursion P (if t then x ∷ (y ∷ ys) else y ∷ insert below x ys)
      by true rest = (h, all)
      by false rest = (all.0, rest)

  pub order_all : (P : X → Type 0) (xs : List X) → AllByRecursion P xs → AllByRecursion P (in_order below xs)
  order_all P [] all = tt
  order_all P (x ∷ xs) all = insert_all P x (in_order below xs) all.0 (order_all P xs all.1)

  insert_tests : (t : X → Bool) (x : X) (ys : List X) → t x ≡ true → list_all t ys ≡ true → list_all t (insert below x ys) ≡ true
  insert_tests t x [] h all = and_both (t x) true h refl
  insert_tests t x (y ∷ ys) h all = by (below x y) (insert_tests t x ys h (and_right (t y) (list_all t ys) all))
    where
      by : (b : Bool) → list_all t (insert below x ys) ≡ true → list_all t (if b then x ∷ (y ∷ ys) else y ∷ insert below x ys) ≡ true
      by true rest = and_both (t x) (list_all t (y ∷ ys)) h all
      by false rest = and_both (t y) (list_all t (insert below x ys)) (and_left (t y) (list_all t ys) all) rest

  pub order_tests : (t : X → Bool) (xs : List X) → list_all t xs ≡ true → list_all t (in_order below xs) ≡ true
  order_tests t [] all = refl
  order_tests t (x ∷ xs) all = insert_tests t x (in_order below xs) (and_left (t x) (list_all t xs) all) (order_tests t xs (and_right (t x) (list_all t xs) all))

  onto : (x y z : X) (zs : List X) → below y x ≡ true → below y z ≡ true → Ascends below (insert below x (z ∷ zs)) → Ascends below (y ∷ insert below x (z ∷ zs))
  onto x y z zs a b rest = by (below x z) rest
    where
      by : (t : Bool) → Ascends below (if t then x ∷ (z ∷ zs) else z ∷ insert below x zs) → Ascends below (y ∷ (if t then x ∷ (z ∷ zs) else z ∷ insert below x zs))
      by true r = (a, r)
      by false r = (b, r)

  insert_ascends : (x : X) (ys : List X) → AllByRecursion (λ y. below x y ≡ false → below y x ≡ true) ys → Ascends below ys → Ascends below (insert below x ys)
  insert_ascends x [] t a = tt
  insert_ascends x (y ∷ []) t a = by (below x y) refl
    where
      by : (b : Bool) → below x y ≡ b → Ascends below (if b then x ∷ (y ∷ []) else y ∷ (x ∷ []))
      by true e = (e, tt)
      by false e = (t.0 e, tt)
  insert_ascends x (y ∷ (z ∷ zs)) t a = by (below x y) refl (insert_ascends x (z ∷ zs) t.1 a.1)
    where
      by : (b : Bool) → below x y ≡ b → Ascends below (insert below x (z ∷ zs)) → Ascends below (if b then x ∷ (y ∷ (z ∷ zs)) else y ∷ insert below x (z ∷ zs))
      by true e rest = (e, a)
      by false e rest = onto x y z zs (t.0 e) a.0 rest

  pub order_ascends : (xs : List X) → Total below xs → Ascends below (in_order below xs)
  order_ascends [] t = tt
  order_ascends (x ∷ xs) t = insert_ascends x (in_order below xs) (order_all (λ y. below x y ≡ false → below y x ≡ true) xs t.0) (order_ascends xs t.1)

  pub ascends_side : (xs : List X) → Ascends below xs → list_all (λ pair. below pair.0 pair.1) (neighbours xs) ≡ true
  ascends_side [] a = refl
  ascends_side (x ∷ []) a = refl
  ascends_side (x ∷ (y ∷ ys)) a = and_both (below x y) (list_all (λ pair. below pair.0 pair.1) (neighbours (y ∷ ys))) a.0 (ascends_side (y ∷ ys) a.1)

  pub side_ascends : (xs : List X) → list_all (λ pair. below pair.0 pair.1) (neighbours xs) ≡ true → Ascends below xs
  side_ascends [] h = tt
  side_ascends (x ∷ []) h = tt
  side_ascends (x ∷ (y ∷ ys)) h = (and_left (below x y) (list_all (λ pair. below pair.0 pair.1) (neighbours (y ∷ ys))) h, side_ascends (y ∷ ys) (and_right (below x y) (list_all (λ pair. below pair.0 pair.1) (neighbours (y ∷ ys))) h))

  -- what ascends is in order
  pub ordered_stays : (xs : List X) → Ascends below xs → in_order below xs ≡ xs
  ordered_stays [] a = refl
  ordered_stays (x ∷ []) a = refl
  ordered_stays (x ∷ (y ∷ ys)) a = ap (insert below x) (ordered_stays (y ∷ ys) a.1) ∙ ap (λ (b : Bool). if b then x ∷ (y ∷ ys) else y ∷ insert below x ys) a.0

less_of : (m n : ℕ) → nat_eq m n ≡ false → nat_lt m n ≡ false → nat_lt n m ≡ true
less_of m n d e = by (below_tells m n) (below_tells n m)
  where
    by : ((nat_lt m n ≡ true) × (m < n)) ⊎ ((nat_lt m n ≡ false) × (n ≤ m)) → ((nat_lt n m ≡ true) × (n < m)) ⊎ ((nat_lt n m ≡ false) × (m ≤ n)) → nat_lt n m ≡ true
    by (inl y) z = clash (nat_lt m n) y.0 e
    by (inr y) (inl z) = z.0
    by (inr y) (inr z) = clash (nat_eq m n) (eq-eqb m n (omega (arith, y.1, z.1))) d

either_group : (a b : Bool) (m n : ℕ) → nat_eq m n ≡ false → in_groups a b (nat_lt m n) ≡ false → in_groups b a (nat_lt n m) ≡ true
either_group true true m n d e = less_of m n d e
either_group true false m n d e = clash true refl e
either_group false true m n d e = refl
either_group false false m n d e = less_of m n d e

-- numbers that differ have an order, in two groups too
pub groups_total : {X : Type 0} (number : X → ℕ) (first : X → Bool) (xs : List X) → Differ (map number xs) → Total (λ x y. in_groups (first x) (first y) (nat_lt (number x) (number y))) xs
groups_total number first [] d = tt
groups_total {X = X} number first (x ∷ xs) d = (each xs d.0, groups_total number first xs d.1)
  where
    each : (ys : List X) → has (number x) (map number ys) ≡ false → AllByRecursion (λ y. in_groups (first x) (first y) (nat_lt (number x) (number y)) ≡ false → in_groups (first y) (first x) (nat_lt (number y) (number x)) ≡ true) ys
    each [] h = tt
    each (y ∷ ys) h = let b = neither_of (nat_eq (number x) (number y)) (has (number x) (map number ys)) h in (either_group (first x) (first y) (number x) (number y) b.0, each ys b.1)

pub numbers_total : {X : Type 0} (number : X → ℕ) (xs : List X) → Differ (map number xs) → Total (λ x y. nat_lt (number x) (number y)) xs
numbers_total number xs d = groups_total number (λ x. true) xs d

-- ---- numbers that differ

module _ {X : Type 0} (news olds : X → ℕ) where
  abbrev low : X → X → Bool
  low x y = nat_lt (olds x) (olds y)

  above_all : (b : ℕ) (y : X) (ys : List X) → b < olds y → Ascends low (y ∷ ys) → AllByRecursion (λ z. b < olds z) (y ∷ ys)
  above_all b y [] lt a = (lt, tt)
  above_all b y (z ∷ zs) lt a = (lt, above_all b z zs (omega (arith, lt, ltb-true (olds y) (olds z) a.0)) a.1)

  none_same : (x : X) (zs : List X) → AllByRecursion (λ z. olds x < olds z) zs → ((z : X) → In z zs → news x ≡ news z → olds x ≡ olds z) → has (news x) (map news zs) ≡ false
  none_same x [] l s = refl
  none_same x (z ∷ zs) l s = none_or (nat_eq (news x) (news z)) (has (news x) (map news zs)) (ne_eqb (news x) (news z) (λ e. absurd (omega (arith, l.0, s z (inl refl) e)))) (none_same x zs l.1 (λ w i e. s w (inr i) e))

  -- where old numbers rise, new ones differ that tell them apart
  pub rising_differ : (xs : List X) → Ascends low xs → ((x y : X) → In x xs → In y xs → news x ≡ news y → olds x ≡ olds y) → Differ (map news xs)
  rising_differ [] a s = tt
  rising_differ (x ∷ []) a s = (refl, tt)
  rising_differ (x ∷ (y ∷ ys)) a s = (none_same x (y ∷ ys) (above_all (olds x) y ys (ltb-true (olds x) (olds y) a.0) a.1) (λ z i e. s x z (inl refl) (inr i) e), rising_differ (y ∷ ys) a.1 (λ v w i j e. s v w (inr i) (inr j) e))

pub differ_ordered : {X : Type 0} (number : X → ℕ) (below : X → X → Bool) (xs : List X) → Differ (map number xs) → Differ (map number (in_order below xs))
differ_ordered number below xs d = differ_of (map number (in_order below xs)) (λ n. omega (arith, once_of (map number xs) d n, sum_map (is_at n) number xs, sum_map (is_at n) number (in_order below xs), sum_ordered below (λ x. is_at n (number x)) xs))

module _ {X : Type 0} (number : X → ℕ) where
  abbrev key : X → List ℕ
  key x = number x ∷ []

  head : {a b : ℕ} → a ∷ [] ≡ b ∷ [] → a ≡ b
  head k = cc

  apart : (x y : X) → nat_eq (number x) (number y) ≡ false → same_entry key x y ≡ false
  apart x y e = untrue (same_entry key x y) (λ s. clash (nat_eq (number x) (number y)) (eq-eqb (number x) (number y) (head ((bytes_decides (key x) (key y)).0 s))) e)

  abbrev New : List X → List X → Type 0
  New before xs = AllByRecursion (λ y. list_any (λ b. same_entry key b y) before ≡ false) xs

  still_new : (before : List X) (x : X) (ys : List X) → has (number x) (map number ys) ≡ false → New before ys → New (before ++ x ∷ []) ys
  still_new before x [] h n = tt
  still_new before x (y ∷ ys) h n =
      let b = neither_of (nat_eq (number x) (number y)) (has (number x) (map number ys)) h in
      (list_any-append (λ b. same_entry key b y) before (x ∷ []) ∙ none_or (list_any (λ b. same_entry key b y) before) (same_entry key x y || false) n.0 (none_or (same_entry key x y) false (apart x y b.0) refl), still_new before x ys b.1 n.1)

  differ_so : (before xs : List X) → Differ (map number xs) → New before xs → differ_from key before xs ≡ true
  differ_so before [] d n = refl
  differ_so before (x ∷ xs) d n = ap (λ (b : Bool). if b then false else differ_from key (before ++ x ∷ []) xs) n.0 ∙ differ_so (before ++ x ∷ []) xs d.1 (still_new before x xs d.0 n.1)

  all_new : (xs : List X) → New [] xs
  all_new [] = tt
  all_new (x ∷ xs) = (refl, all_new xs)

  pub differ_all : (xs : List X) → Differ (map number xs) → all_differ (λ x. number x ∷ []) xs ≡ true
  differ_all xs d = differ_so [] xs d (all_new xs)

-- ---- tests of what things become

-- of each whose names are as they should be
pub all_named : {X Y : Type 0} (P : Named → Type 0) (names : X → List Named) (f : X → Y) (s : X → Bool) (t : Y → Bool) → ((x : X) → AllByRecursion P (names x) → s x ≡ true → t (f x) ≡ true) → (xs : List X) → AllByRecursion P (flat_map names xs) → list_all s xs ≡ true → list_all t (map f xs) ≡ true
all_named P names f s t each [] u h = refl
all_named P names f s t each (x ∷ xs) u h =
    and_both (t (f x)) (list_all t (map f xs)) (each x (all_left P (names x) (flat_map names xs) u) (and_left (s x) (list_all s xs) h))
    (all_named P names f s t each xs (all_right P (names x) (flat_map names xs) u) (and_right (s x) (list_all s xs) h))

pub any_map : {X Y : Type 0} (f : X → Y) (s : X → Bool) (t : Y → Bool) → ((x : X) → t (f x) ≡ s x) → (xs : List X) → list_any t (map f xs) ≡ list_any s xs
any_map f s t e [] = refl
any_map f s t e (x ∷ xs) = ap₂ (λ a b. a || b) (e x) (any_map f s t e xs)

pub all_map : {X Y : Type 0} (f : X → Y) (s : X → Bool) (t : Y → Bool) → ((x : X) → t (f x) ≡ s x) → (xs : List X) → list_all t (map f xs) ≡ list_all s xs
all_map f s t e [] = refl
all_map f s t e (x ∷ xs) = ap₂ (λ a b. a && b) (e x) (all_map f s t e xs)

pub side_map : {X Y : Type 0} (f : X → Y) (s : X × X → Bool) (t : Y × Y → Bool) → ((x y : X) → t (f x, f y) ≡ s (x, y)) → (xs : List X) → list_all t (neighbours (map f xs)) ≡ list_all s (neighbours xs)
side_map f s t e [] = refl
side_map f s t e (x ∷ []) = refl
side_map f s t e (x ∷ (y ∷ ys)) = ap₂ (λ a b. a && b) (e x y) (side_map f s t e (y ∷ ys))
