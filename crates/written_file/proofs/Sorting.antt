-- Numbered things in order: which there are, that their numbers rise, and that it is the order of the written program.
use Rattle.std.proofs.Common.{◌≡◌, ◌≤◌, ◌+◌, inl, inr, ℕ, suc, Bool, true, false, List, [], ◌∷◌, ◌++◌, length, map, refl, sym, ap, subst, ◌∙◌, arith}
use Rattle.std.specs.Prelude.{nat_eq, nat_lt, nat_le, ◌&&◌, ◌||◌, slice_get, sum_by, if◌then◌else◌}
use Rattle.std.specs.List.{list_any, AllByRecursion}
use Rattle.std.proofs.lemmas.Bool.{eqb-true, eq-eqb, ltb-true, or_cases, and_parts}
use Rattle.std.proofs.lemmas.List.Sums.{sum_by-cons}
use Rattle.lemmas.proofs.Bools.{clash, neither_of, or_none}
use Rattle.lemmas.proofs.Lists.{get_map}
use Rattle.lemmas.proofs.Options.{before_map}
use Rattle.program_model.specs.Distinct.{same_entry, differ_from}
use Rattle.program_model.specs.MemberRules.{in_groups}
use Rattle.write_laws.proofs.Ascending.{is_at, one_place}
use Rattle.dex_pools.specs.Finds.{Ascends}
use Rattle.code_write.specs.Pairs.{Numbered, is_before, insert, in_order}
use Rattle.dex_defs.specs.Written as written
use Rattle.dex_defs.specs.Annotations.{pair_below}
use Rattle.written_file.proofs.In.{In, in_got, Place, place_in, has_in}
use Rattle.written_file.proofs.Places.{has, below_tells}

-- ---- numbers that differ

abbrev pub Differ : List ℕ → Type 0
Differ [] = Unit {0}
Differ (n ∷ ns) = (has n ns ≡ false) × Differ ns

abbrev pub Once : List ℕ → Type 0
Once ns = (n : ℕ) → sum_by (is_at n) ns ≤ 1

one_there : (n m : ℕ) → n ≡ m → is_at n m ≡ 1
one_there n m e = let t : nat_eq n m ≡ true = eq-eqb n m e in rw t refl

none_there : (n m : ℕ) → nat_eq n m ≡ false → is_at n m ≡ 0
none_there n m t = rw t refl

none_counted : (n : ℕ) (ns : List ℕ) → has n ns ≡ false → sum_by (is_at n) ns ≡ 0
none_counted n [] h = refl
none_counted n (m ∷ ms) h =
    let both = neither_of (nat_eq n m) (has n ms) h in
    omega (arith, sum_by-cons (is_at n) m ms, none_there n m both.0, none_counted n ms both.1)

some_counted : (n : ℕ) (ns : List ℕ) → has n ns ≡ true → 1 ≤ sum_by (is_at n) ns
some_counted n [] h = clash false h refl
some_counted n (m ∷ ms) h = by_head (nat_eq n m) refl (λ g. some_counted n ms g)
  where
    by_head : (t : Bool) → nat_eq n m ≡ t → (has n ms ≡ true → 1 ≤ sum_by (is_at n) ms) → 1 ≤ sum_by (is_at n) (m ∷ ms)
    by_head true t on = omega (arith, sum_by-cons (is_at n) m ms, one_there n m (eqb-true n m t))
    by_head false t on = omega (arith, sum_by-cons (is_at n) m ms, on (subst (λ (x : Bool). (x || has n ms) ≡ true) t h))

pub once_of : (ns : List ℕ) → Differ ns → Once ns
once_of [] d n = omega arith
once_of (m ∷ ms) d n = by_head (nat_eq n m) refl (once_of ms d.1 n)
  where
    by_head : (t : Bool) → nat_eq n m ≡ t → sum_by (is_at n) ms ≤ 1 → sum_by (is_at n) (m ∷ ms) ≤ 1
    by_head true t le =
        let same : n ≡ m = eqb-true n m t in
        omega (arith, sum_by-cons (is_at n) m ms, one_there n m same, none_counted n ms (subst (λ (k : ℕ). has k ms ≡ false) (sym same) d.0))
    by_head false t le = omega (arith, sum_by-cons (is_at n) m ms, none_there n m t, le)

pub differ_of : (ns : List ℕ) → Once ns → Differ ns
differ_of [] o = tt
differ_of (n ∷ ns) o = (by_test (has n ns) refl, differ_of ns (λ m. omega (arith, o m, sum_by-cons (is_at m) n ns)))
  where
    by_test : (t : Bool) → has n ns ≡ t → has n ns ≡ false
    by_test true t = absurd (omega (arith, o n, sum_by-cons (is_at n) n ns, one_there n n refl, some_counted n ns t))
    by_test false t = t

-- the new numbers of things that differ
pub news_differ : {X : Type 0} (f : X → ℕ) (key : X → List ℕ) (before xs : List X) → differ_from key before xs ≡ true → ((x y : X) → In x xs → In y xs → f x ≡ f y → key x ≡ key y) → Differ (map f xs)
news_differ f key before [] h same = tt
news_differ {X = X} f key before (x ∷ xs) h same = (by_test (has (f x) (map f xs)) refl, news_differ f key (before ++ x ∷ []) xs (later h) (λ y z i j e. same y z (inr i) (inr j) e))
  where
    by_test : (t : Bool) → has (f x) (map f xs) ≡ t → has (f x) (map f xs) ≡ false
    by_test true t =
        let at : Place (f x) (map f xs) = place_in (f x) (map f xs) (has_in (f x) (map f xs) t) in
        let old = before_map f (slice_get xs at.at) (f x) (sym (get_map f xs at.at) ∙ at.is) in
        let keys : key x ≡ key old.0 = same x old.0 (inl refl) (inr (in_got xs at.at old.0 old.1.0)) (sym old.1.1) in
        absurd (omega (arith, one_place key before (x ∷ xs) 0 (suc at.at) x old.0 h refl old.1.0 keys))
    by_test false t = t

    later : differ_from key before (x ∷ xs) ≡ true → differ_from key (before ++ x ∷ []) xs ≡ true
    later g = go_on_with (list_any (λ y. same_entry key y x) before) g
      where
        go_on_with : (t : Bool) → (if t then false else differ_from key (before ++ x ∷ []) xs) ≡ true → differ_from key (before ++ x ∷ []) xs ≡ true
        go_on_with true k = clash false k refl
        go_on_with false k = k

-- ---- pairs in order

insert_sum : (f : Numbered → ℕ) (a : Numbered) (bs : List Numbered) → sum_by f (insert a bs) ≡ f a + sum_by f bs
insert_sum f a [] = sum_by-cons f a []
insert_sum f a (b ∷ bs) = by_test (is_before a b) refl (insert_sum f a bs)
  where
    by_test : (t : Bool) → is_before a b ≡ t → sum_by f (insert a bs) ≡ f a + sum_by f bs → sum_by f (insert a (b ∷ bs)) ≡ f a + sum_by f (b ∷ bs)
    by_test true t e = rw t (sum_by-cons f a (b ∷ bs))
    by_test false t e = rw t (omega (arith, e, sum_by-cons f b (insert a bs), sum_by-cons f b bs))

pub order_sum : (f : Numbered → ℕ) (xs : List Numbered) → sum_by f (in_order xs) ≡ sum_by f xs
unfolding in_order
order_sum f [] = refl
order_sum f (a ∷ bs) = omega (arith, insert_sum f a (in_order bs), order_sum f bs, sum_by-cons f a bs)

insert_all : (P : Numbered → Type 0) (a : Numbered) (bs : List Numbered) → P a → AllByRecursion P bs → AllByRecursion P (insert a bs)
insert_all P a [] h all = (h, tt)
insert_all P a (b ∷ bs) h all = by_test (is_before a b) refl (insert_all P a bs h all.1)
  where
    by_test : (t : Bool) → is_before a b ≡ t → AllByRecursion P (insert a bs) → AllByRecursion P (insert a (b ∷ bs))
    by_test true t rest = rw t (h, all)
    by_test false t rest = rw t (all.0, rest)

pub order_all : (P : Numbered → Type 0) (xs : List Numbered) → AllByRecursion P xs → AllByRecursion P (in_order xs)
unfolding in_order
order_all P [] all = tt
order_all P (a ∷ bs) all = insert_all P a (in_order bs) all.0 (order_all P bs all.1)

insert_long : (a : Numbered) (bs : List Numbered) → length (insert a bs) ≡ suc (length bs)
insert_long a [] = refl
insert_long a (b ∷ bs) = by_test (is_before a b) refl (insert_long a bs)
  where
    by_test : (t : Bool) → is_before a b ≡ t → length (insert a bs) ≡ suc (length bs) → length (insert a (b ∷ bs)) ≡ suc (suc (length bs))
    by_test true t e = rw t refl
    by_test false t e = rw t (ap suc e)

pub order_long : (xs : List Numbered) → length (in_order xs) ≡ length xs
unfolding in_order
order_long [] = refl
order_long (a ∷ bs) = insert_long a (in_order bs) ∙ ap suc (order_long bs)

-- ---- their numbers rise

abbrev pub Above : ℕ → List Numbered → Type 0
Above n xs = AllByRecursion (λ x. n ≤ x.0) xs

abbrev pub Rises : List Numbered → Type 0
Rises [] = Unit {0}
Rises (x ∷ xs) = Above x.0 xs × Rises xs

above_more : (n m : ℕ) (xs : List Numbered) → n ≤ m → Above m xs → Above n xs
above_more n m [] le all = tt
above_more n m (x ∷ xs) le all = (omega (arith, le, all.0), above_more n m xs le all.1)

before_tells : (a b : Numbered) → is_before a b ≡ true → a.0 ≤ b.0
before_tells a b h = elim (or_cases (nat_lt a.0 b.0) (nat_eq a.0 b.0 && nat_le a.1 b.1) h) [
  | inl t ↦ omega (arith, ltb-true a.0 b.0 t)
  | inr t ↦ omega (arith, eqb-true a.0 b.0 (and_parts (nat_eq a.0 b.0) (nat_le a.1 b.1) t).0)
]

behind_tells : (a b : Numbered) → is_before a b ≡ false → b.0 ≤ a.0
behind_tells a b h = elim (below_tells a.0 b.0) [
  | inl y ↦ clash (nat_lt a.0 b.0) y.0 (neither_of (nat_lt a.0 b.0) (nat_eq a.0 b.0 && nat_le a.1 b.1) h).0
  | inr z ↦ z.1
]

insert_rises : (a : Numbered) (bs : List Numbered) → Rises bs → Rises (insert a bs)
insert_rises a [] h = (tt, tt)
insert_rises a (b ∷ bs) h = by_test (is_before a b) refl (insert_rises a bs h.1)
  where
    by_test : (t : Bool) → is_before a b ≡ t → Rises (insert a bs) → Rises (insert a (b ∷ bs))
    by_test true t rest = rw t ((before_tells a b t, above_more a.0 b.0 bs (before_tells a b t) h.0), h)
    by_test false t rest = rw t (insert_all (λ x. b.0 ≤ x.0) a bs (behind_tells a b t) h.0, rest)

pub order_rises : (xs : List Numbered) → Rises (in_order xs)
unfolding in_order
order_rises [] = tt
order_rises (a ∷ bs) = insert_rises a (in_order bs) (order_rises bs)

-- and ascend where they differ
pub rises_ascends : (xs : List Numbered) → Rises xs → Differ (map (λ x. x.0) xs) → Ascends pair_below xs
rises_ascends [] h d = tt
rises_ascends (x ∷ []) h d = tt
rises_ascends (x ∷ y ∷ xs) h d = (strict, rises_ascends (y ∷ xs) h.1 d.1)
  where
    strict : nat_lt x.0 y.0 ≡ true
    strict = elim (below_tells x.0 y.0) [
      | inl t ↦ t.0
      | inr t ↦ clash (nat_eq x.0 y.0) (eq-eqb x.0 y.0 (omega (arith, t.1, h.0.0))) (neither_of (nat_eq x.0 y.0) (has x.0 (map (λ z. z.0) xs)) d.0).0
    ]

-- ---- the order of the written program

module _ {X : Type 0} (g : Numbered → X) (below : X → X → Bool) where
  -- each comes before those behind it just where what it stands for does
  abbrev pub Agrees : List Numbered → Type 0
  Agrees [] = Unit {0}
  Agrees (a ∷ bs) = AllByRecursion (λ b. is_before a b ≡ below (g a) (g b)) bs × Agrees bs

  insert_same : (a : Numbered) (bs : List Numbered) → AllByRecursion (λ b. is_before a b ≡ below (g a) (g b)) bs → map g (insert a bs) ≡ written.insert below (g a) (map g bs)
  insert_same a [] h = refl
  insert_same a (b ∷ bs) h = by_test (is_before a b) refl (insert_same a bs h.1)
    where
      by_test : (t : Bool) → is_before a b ≡ t → map g (insert a bs) ≡ written.insert below (g a) (map g bs) → map g (insert a (b ∷ bs)) ≡ written.insert below (g a) (map g (b ∷ bs))
      by_test true t e = let s : below (g a) (g b) ≡ true = sym h.0 ∙ t in rw (t, s) refl
      by_test false t e = let s : below (g a) (g b) ≡ false = sym h.0 ∙ t in rw (t, s) (ap (λ l. g b ∷ l) e)

  pub order_same : (xs : List Numbered) → Agrees xs → map g (in_order xs) ≡ written.in_order below (map g xs)
  unfolding in_order
  order_same [] h = refl
  order_same (a ∷ bs) h = insert_same a (in_order bs) (order_all (λ b. is_before a b ≡ below (g a) (g b)) bs h.0) ∙ ap (λ l. written.insert below (g a) l) (order_same bs h.1)

-- pairs whose numbers differ come in the order of their numbers
pub before_same : (a b : Numbered) → nat_eq a.0 b.0 ≡ false → is_before a b ≡ nat_lt a.0 b.0
before_same a b e = ap (λ (t : Bool). nat_lt a.0 b.0 || (t && nat_le a.1 b.1)) e ∙ or_none (nat_lt a.0 b.0)

-- ---- two groups

module _ {X : Type 0} (first : X → Bool) (low : X → X → Bool) where
  abbrev grouped : X → X → Bool
  grouped x y = in_groups (first x) (first y) (low x y)

  abbrev pub AllAre : Bool → List X → Type 0
  AllAre t xs = AllByRecursion (λ x. first x ≡ t) xs

  insert_first : (x : X) (ts fs : List X) → first x ≡ true → AllAre true ts → AllAre false fs → written.insert grouped x (ts ++ fs) ≡ written.insert grouped x ts ++ fs
  insert_first x [] [] e a b = refl
  insert_first x [] (f ∷ fs) e a b = let t : in_groups (first x) (first f) (low x f) ≡ true = rw (e, b.0) refl in rw t refl
  insert_first x (t ∷ ts) fs e a b = by_test (grouped x t) refl (insert_first x ts fs e a.1 b)
    where
      by_test : (s : Bool) → grouped x t ≡ s → written.insert grouped x (ts ++ fs) ≡ written.insert grouped x ts ++ fs → written.insert grouped x (t ∷ (ts ++ fs)) ≡ written.insert grouped x (t ∷ ts) ++ fs
      by_test true s k = rw s refl
      by_test false s k = rw s (ap (λ l. t ∷ l) k)

  insert_last : (x : X) (ts fs : List X) → first x ≡ false → AllAre true ts → written.insert grouped x (ts ++ fs) ≡ ts ++ written.insert grouped x fs
  insert_last x [] fs e a = refl
  insert_last x (t ∷ ts) fs e a = let s : in_groups (first x) (first t) (low x t) ≡ false = rw (e, a.0) refl in rw s (ap (λ l. t ∷ l) (insert_last x ts fs e a.1))

  insert_are : (s : Bool) (x : X) (xs : List X) → first x ≡ s → AllAre s xs → AllAre s (written.insert grouped x xs)
  insert_are s x [] e a = (e, tt)
  insert_are s x (y ∷ ys) e a = by_test (grouped x y) refl (insert_are s x ys e a.1)
    where
      by_test : (t : Bool) → grouped x y ≡ t → AllAre s (written.insert grouped x ys) → AllAre s (written.insert grouped x (y ∷ ys))
      by_test true t k = rw t (e, a)
      by_test false t k = rw t (a.0, k)

  abbrev pub those : Bool → List X → List X
  those t [] = []
  those true (x ∷ xs) = if first x then x ∷ those true xs else those true xs
  those false (x ∷ xs) = if first x then those false xs else x ∷ those false xs

  those_are : (s : Bool) (xs : List X) → AllAre s (written.in_order grouped (those s xs))
  those_are true [] = tt
  those_are false [] = tt
  those_are true (x ∷ xs) = by_test (first x) refl (those_are true xs)
    where
      by_test : (t : Bool) → first x ≡ t → AllAre true (written.in_order grouped (those true xs)) → AllAre true (written.in_order grouped (if first x then x ∷ those true xs else those true xs))
      by_test true t k = rw t (insert_are true x (written.in_order grouped (those true xs)) t k)
      by_test false t k = rw t k
  those_are false (x ∷ xs) = by_test (first x) refl (those_are false xs)
    where
      by_test : (t : Bool) → first x ≡ t → AllAre false (written.in_order grouped (those false xs)) → AllAre false (written.in_order grouped (if first x then those false xs else x ∷ those false xs))
      by_test true t k = rw t k
      by_test false t k = rw t (insert_are false x (written.in_order grouped (those false xs)) t k)

  -- in order, the first group stands before the other one
  pub two_groups : (xs : List X) → written.in_order grouped xs ≡ written.in_order grouped (those true xs) ++ written.in_order grouped (those false xs)
  two_groups [] = refl
  two_groups (x ∷ xs) = by_test (first x) refl (two_groups xs)
    where
      by_test : (t : Bool) → first x ≡ t → written.in_order grouped xs ≡ written.in_order grouped (those true xs) ++ written.in_order grouped (those false xs)
          → written.insert grouped x (written.in_order grouped xs) ≡ written.in_order grouped (if first x then x ∷ those true xs else those true xs) ++ written.in_order grouped (if first x then those false xs else x ∷ those false xs)
      by_test true t k = ap (λ l. written.insert grouped x l) k ∙ (insert_first x (written.in_order grouped (those true xs)) (written.in_order grouped (those false xs)) t (those_are true xs) (those_are false xs)
          ∙ ap (λ (b : Bool). written.in_order grouped (if b then x ∷ those true xs else those true xs) ++ written.in_order grouped (if b then those false xs else x ∷ those false xs)) (sym t))
      by_test false t k = ap (λ l. written.insert grouped x l) k ∙ (insert_last x (written.in_order grouped (those true xs)) (written.in_order grouped (those false xs)) t (those_are true xs)
          ∙ ap (λ (b : Bool). written.in_order grouped (if b then x ∷ those true xs else those true xs) ++ written.in_order grouped (if b then those false xs else x ∷ those false xs)) (sym t))
