-- The classes with the numbers of ranges, as a list in file order.
use Rattle.std.proofs.Common.{◌≡◌, ℕ, zero, suc, ◌+◌, ◌-◌, ◌<◌, ◌≤◌, ◌⊎◌, inl, inr, Bool, true, false, true≢false, nat_eq, List, [], ◌∷◌, ◌++◌, map, length, slice_index, Some, refl, sym, ap, subst, ◌∙◌, arith}
use Rattle.std.proofs.lemmas.List.FromFn.{filter_of_map_range_with_len_more}
use Rattle.std.proofs.lemmas.Map.Keys.{any_passes_from_place}
use Rattle.std.specs.Prelude.{◌&&◌, not, cond, Contains, slice_get, slice_index_or, flat_map}
use Rattle.std.specs.List.{filter, range_with_len}
use Rattle.std.specs.List.Sorted.{IsStrictlyIncreasing}
use Rattle.program_model.specs.declared.program.Program.{Program}
use Rattle.class_defs.specs.Places.{is_under}
use Rattle.class_defs.proofs.Positions.{both}
use Rattle.class_defs.proofs.WellFormed.{and_left, and_right}
use Rattle.hierarchy.specs.declared.ranges.Range.{Range}
use Rattle.hierarchy.specs.Climbing.{In}
use Rattle.hierarchy.specs.Touring.{in_range, ranges_of, IsNumbering, HasRanges, others_in, subclasses_of}
use Rattle.hierarchy.proofs.Above.{in_left, in_right, in_split}
use Rattle.hierarchy.proofs.Joined.{range_has, has_range, has_at}
use Rattle.hierarchy.proofs.Ranging.{number_short, place_short, place_of_number}

-- ---- one number more of a range

abbrev pub others_to : List ℕ → ℕ → ℕ → ℕ → List ℕ
others_to places class first n = filter (λ c. not (nat_eq c class)) (map (slice_index places) (range_with_len first n))

pub others_none : (places : List ℕ) (class first : ℕ) → others_to places class first (first - first) ≡ []
others_none places class first = let e : first - first ≡ 0 = omega arith in ap (others_to places class first) e

pub others_more : (places : List ℕ) (class first number : ℕ) → first ≤ number
    → others_to places class first (number + 1 - first) ≡ others_to places class first (number - first) ++ cond (not (nat_eq (slice_index places number) class)) (slice_index places number ∷ []) []
others_more places class first number l =
    let e : number + 1 - first ≡ number - first + 1 = omega (arith, l) in
    ap (others_to places class first) e ∙ filter_of_map_range_with_len_more (λ c. not (nat_eq c class)) (slice_index places) first (number - first) number (omega (arith, l))

-- a class more of a list of those with numbers of a range
joined_thrice : (xs ys zs : List ℕ) → (xs ++ ys) ++ zs ≡ xs ++ (ys ++ zs)
joined_thrice [] ys zs = refl
joined_thrice (x ∷ xs) ys zs = ap (λ l. x ∷ l) (joined_thrice xs ys zs)

pub added_other : (places : List ℕ) (class first number one : ℕ) (before now more : List ℕ) → first ≤ number → one ≡ slice_index places number → more ≡ now ++ cond (not (nat_eq one class)) (one ∷ []) []
    → now ≡ before ++ others_to places class first (number - first) → more ≡ before ++ others_to places class first (number + 1 - first)
added_other places class first number one before now more l is e h =
    e ∙ ap (λ o. now ++ cond (not (nat_eq o class)) (o ∷ []) []) is
    ∙ ap (λ w. w ++ cond (not (nat_eq (slice_index places number) class)) (slice_index places number ∷ []) []) h
    ∙ joined_thrice before (others_to places class first (number - first)) (cond (not (nat_eq (slice_index places number) class)) (slice_index places number ∷ []) [])
    ∙ ap (λ w. before ++ w) (sym (others_more places class first number l))

-- where a count through a range stops
pub same_end : (first end number : ℕ) → first ≤ number → (first ≤ end → number ≤ end) → (end ≤ first → number ≡ first) → end ≤ number → number - first ≡ end - first
same_end first end number l h none past = elim (or_le first end) [
  | inl a ↦ (let b = h a in omega (arith, b, past))
  | inr a ↦ (let b = none a in omega (arith, a, b))
]
  where
    or_le : (a b : ℕ) → (a ≤ b) ⊎ (b ≤ a)
    or_le zero b = inl (omega arith)
    or_le (suc a) zero = inr (omega arith)
    or_le (suc a) (suc b) = elim (or_le a b) [ inl l ↦ inl (omega (arith, l)) | inr l ↦ inr (omega (arith, l)) ]

-- ---- elements

pub contains_in : (xs : List ℕ) (c : ℕ) → Contains xs c → In c xs
contains_in xs c h = at xs h.0 h.1 h.2
  where
    at : (xs : List ℕ) (k : ℕ) → k < length xs → slice_index_or xs k c ≡ c → In c xs
    at [] k l e = absurd (omega (arith, l))
    at (x ∷ xs) zero l e = inl (sym e)
    at (x ∷ xs) (suc k) l e = inr (at xs k (omega (arith, l)) e)

pub in_contains : (xs : List ℕ) (c : ℕ) → In c xs → Contains xs c
in_contains [] c i = absurd i
in_contains (x ∷ xs) c (inl s) = (0, omega arith, sym s)
in_contains (x ∷ xs) c (inr i) = let h = in_contains xs c i in let l = h.1 in (suc h.0, omega (arith, l), h.2)

in_filter : (t : ℕ → Bool) (xs : List ℕ) (c : ℕ) → In c (filter t xs) → In c xs × (t c ≡ true)
in_filter t [] c i = absurd i
in_filter t (x ∷ xs) c i = by_test (t x) refl i (in_filter t xs c)
  where
    by_test : (b : Bool) → t x ≡ b → In c (cond b (x ∷ filter t xs) (filter t xs)) → (In c (filter t xs) → In c xs × (t c ≡ true)) → In c (x ∷ xs) × (t c ≡ true)
    by_test true e (inl s) more = (inl s, ap t s ∙ e)
    by_test true e (inr j) more = let r = more j in (inr r.0, r.1)
    by_test false e j more = let r = more j in (inr r.0, r.1)

filter_in : (t : ℕ → Bool) (xs : List ℕ) (c : ℕ) → In c xs → t c ≡ true → In c (filter t xs)
filter_in t [] c i e = absurd i
filter_in t (x ∷ xs) c (inl s) e = subst (λ b. In c (cond b (x ∷ filter t xs) (filter t xs))) (sym (sym (ap t s) ∙ e)) (inl s)
filter_in t (x ∷ xs) c (inr i) e = by_test (t x) (filter_in t xs c i e)
  where
    by_test : (b : Bool) → In c (filter t xs) → In c (cond b (x ∷ filter t xs) (filter t xs))
    by_test true j = inr j
    by_test false j = j

record Maps (f : ℕ → ℕ) (xs : List ℕ) (c : ℕ) : Type 0 where
  pub one : ℕ
  pub there : In one xs
  pub is : c ≡ f one

in_map : (f : ℕ → ℕ) (xs : List ℕ) (c : ℕ) → In c (map f xs) → Maps f xs c
in_map f [] c i = absurd i
in_map f (x ∷ xs) c (inl s) = record { one = x; there = inl refl; is = s }
in_map f (x ∷ xs) c (inr i) = let m = in_map f xs c i in record { one = m.one; there = inr m.there; is = m.is }

map_in : (f : ℕ → ℕ) (xs : List ℕ) (k : ℕ) → In k xs → In (f k) (map f xs)
map_in f [] k i = absurd i
map_in f (x ∷ xs) k (inl s) = inl (ap f s)
map_in f (x ∷ xs) k (inr i) = inr (map_in f xs k i)

in_numbers : (a n k : ℕ) → In k (range_with_len a n) → (a ≤ k) × (k < a + n)
in_numbers a zero k i = absurd i
in_numbers a (suc n) k (inl s) = (omega (arith, s), omega (arith, s))
in_numbers a (suc n) k (inr i) = let r = in_numbers (a + 1) n k i in let x = r.0 in let y = r.1 in (omega (arith, x), omega (arith, y))

numbers_in : (a n k : ℕ) → a ≤ k → k < a + n → In k (range_with_len a n)
numbers_in a zero k l h = absurd (omega (arith, l, h))
numbers_in a (suc n) k l h = elim (or_at a k l) [ inl s ↦ inl s | inr m ↦ inr (numbers_in (a + 1) n k m (omega (arith, h))) ]
  where
    or_at : (a k : ℕ) → a ≤ k → (k ≡ a) ⊎ (a + 1 ≤ k)
    or_at zero zero l = inl refl
    or_at zero (suc k) l = inr (omega arith)
    or_at (suc a) zero l = absurd (omega (arith, l))
    or_at (suc a) (suc k) l = elim (or_at a k (omega (arith, l))) [ inl s ↦ inl (ap suc s) | inr m ↦ inr (omega (arith, m)) ]

-- ---- the classes of a range

-- the class has a number of the range, and is another than one
record Other (places : List ℕ) (class : ℕ) (r : Range) (c : ℕ) : Type 0 where
  pub number : ℕ
  pub within : in_range number r ≡ true
  pub is : c ≡ slice_index places number
  pub other : not (nat_eq c class) ≡ true

other_of : (places : List ℕ) (class : ℕ) (r : Range) (c : ℕ) → In c (others_in places class r) → Other places class r c
other_of places class r c i =
    let f = in_filter (λ c. not (nat_eq c class)) (map (slice_index places) (range_with_len r.first (r.end - r.first))) c i in
    let m = in_map (slice_index places) (range_with_len r.first (r.end - r.first)) c f.0 in
    let n = in_numbers r.first (r.end - r.first) m.one m.there in
    let x = n.0 in
    let y = n.1 in
    record { number = m.one; within = has_range m.one r x (omega (arith, x, y)); is = m.is; other = f.1 }

of_other : (places : List ℕ) (class : ℕ) (r : Range) (c : ℕ) → Other places class r c → In c (others_in places class r)
of_other places class r c o =
    let h = range_has o.number r o.within in
    let x = h.0 in
    let y = h.1 in
    filter_in (λ c. not (nat_eq c class)) (map (slice_index places) (range_with_len r.first (r.end - r.first))) c
    (subst (λ w. In w (map (slice_index places) (range_with_len r.first (r.end - r.first)))) (sym o.is) (map_in (slice_index places) (range_with_len r.first (r.end - r.first)) o.number (numbers_in r.first (r.end - r.first) o.number x (omega (arith, x, y))))) o.other

-- ---- the classes of a row of ranges

record FromRange (f : Range → List ℕ) (rs : List Range) (c : ℕ) : Type 0 where
  pub place : ℕ
  pub range : Range
  pub is : slice_get rs place ≡ Some range
  pub there : In c (f range)

in_flat : (f : Range → List ℕ) (rs : List Range) (c : ℕ) → In c (flat_map f rs) → FromRange f rs c
in_flat f [] c i = absurd i
in_flat f (r ∷ rs) c i = elim (in_split c (f r) (flat_map f rs) i) [
  | inl j ↦ record { place = 0; range = r; is = refl; there = j }
  | inr j ↦ (let m = in_flat f rs c j in record { place = suc m.place; range = m.range; is = m.is; there = m.there })
]

flat_in : (f : Range → List ℕ) (rs : List Range) (i : ℕ) (r : Range) (c : ℕ) → slice_get rs i ≡ Some r → In c (f r) → In c (flat_map f rs)
flat_in f [] i r c e j = cc
flat_in f (x ∷ xs) zero r c e j = let s : x ≡ r = cc in in_left c (f x) (flat_map f xs) (subst (λ w. In c (f w)) (sym s) j)
flat_in f (x ∷ xs) (suc i) r c e j = in_right c (f x) (flat_map f xs) (flat_in f xs i r c e j)

-- ---- lists that rise

-- the numbers rise, and the first is no lower than a bound
abbrev Rises : ℕ → List ℕ → Type 0
Rises a [] = Unit {0}
Rises a (x ∷ xs) = (a ≤ x) × Rises (suc x) xs

rises_from : (a : ℕ) (xs : List ℕ) → (0 < length xs → a ≤ slice_index xs 0) → IsStrictlyIncreasing xs → Rises a xs
rises_from a [] h up = tt
rises_from a (x ∷ xs) h up = (h (omega arith), rises_from (suc x) xs (λ l. let u : x < slice_index xs 0 = up 0 (omega (arith, l)) in omega (arith, u)) (λ k l. let e : suc k + 1 ≡ suc (k + 1) = omega arith in subst (λ j. slice_index xs k < slice_index (x ∷ xs) j) e (up (suc k) (omega (arith, l)))))

rises_above : (a c : ℕ) (xs : List ℕ) → Rises a xs → In c xs → a ≤ c
rises_above a c [] r i = absurd i
rises_above a c (x ∷ xs) r (inl s) = let l = r.0 in omega (arith, l, s)
rises_above a c (x ∷ xs) r (inr i) = let m = rises_above (suc x) c xs r.1 i in let l = r.0 in omega (arith, m, l)

abbrev AllPass : ℕ → ℕ → (ℕ → Bool) → List ℕ → Type 0
AllPass a n t xs = (c : ℕ) → In c xs → (c < a + n) × (t c ≡ true)

abbrev HasAll : ℕ → ℕ → (ℕ → Bool) → List ℕ → Type 0
HasAll a n t xs = (c : ℕ) → a ≤ c → c < a + n → t c ≡ true → In c xs

abbrev Filters : ℕ → ℕ → (ℕ → Bool) → Type 0
Filters a n t = (xs : List ℕ) → Rises a xs → AllPass a n t xs → HasAll a n t xs → xs ≡ filter t (range_with_len a n)

-- the first number stands first
first_stands : (n a : ℕ) (t : ℕ → Bool) → Filters (a + 1) n t → (xs : List ℕ) → Rises a xs → In a xs → AllPass a (suc n) t xs → HasAll a (suc n) t xs → xs ≡ a ∷ filter t (range_with_len (a + 1) n)
first_stands n a t rest [] r i all has = absurd i
first_stands n a t rest (x ∷ xs) r (inr i) all has = absurd (let m = rises_above (suc x) a xs r.1 i in let l = r.0 in omega (arith, m, l))
first_stands n a t rest (x ∷ xs) r (inl s) all has =
    let up : suc x ≡ a + 1 = omega (arith, s) in
    let same : xs ≡ filter t (range_with_len (a + 1) n) = rest xs (subst (λ b. Rises b xs) up r.1) (λ c i. let q = all c (inr i) in let l = q.0 in (omega (arith, l), q.1))
    (λ c l m e. elim (has c (omega (arith, l)) (omega (arith, m)) e) [ inl h ↦ absurd (omega (arith, h, s, l)) | inr j ↦ j ]) in
    ap (λ y. y ∷ xs) (sym s) ∙ ap (λ l. a ∷ l) same

above_more : (a x : ℕ) → a ≤ x → (x ≡ a → ⊥) → a + 1 ≤ x
above_more zero zero l h = absurd (h refl)
above_more zero (suc x) l h = omega arith
above_more (suc a) zero l h = absurd (omega (arith, l))
above_more (suc a) (suc x) l h = let m = above_more a x (omega (arith, l)) (λ e. h (ap suc e)) in omega (arith, m)

-- where it fails the test all stand above it
all_later : (a : ℕ) (xs : List ℕ) → Rises a xs → ((c : ℕ) → In c xs → c ≡ a → ⊥) → Rises (a + 1) xs
all_later a [] r h = tt
all_later a (x ∷ xs) r h = (above_more a x r.0 (h x (inl refl)), r.1)

rises_is : (n a : ℕ) (t : ℕ → Bool) → Filters a n t
rises_is zero a t [] r all has = refl
rises_is zero a t (x ∷ xs) r all has = absurd (let l = r.0 in let m = (all x (inl refl)).0 in omega (arith, l, m))
rises_is (suc n) a t xs r all has = by_test (t a) refl (rises_is n (a + 1) t)
  where
    by_test : (b : Bool) → t a ≡ b → Filters (a + 1) n t → xs ≡ cond b (a ∷ filter t (range_with_len (a + 1) n)) (filter t (range_with_len (a + 1) n))
    by_test true e rest = first_stands n a t rest xs r (has a (omega arith) (omega arith) e) all has
    by_test false e rest = rest xs (all_later a xs r (λ c i s. true≢false (sym (all c i).1 ∙ ap t s ∙ e))) (λ c i. let q = all c i in let l = q.0 in (omega (arith, l), q.1)) (λ c l m f. has c (omega (arith, l)) (omega (arith, m)) f)

-- ---- the other classes under a class

module _ (p : Program) (numbers places : List ℕ) (rows : List (List Range)) (b : IsNumbering (length p.classes) numbers places) (h : HasRanges p places rows) (class : ℕ) (l : class < length p.classes) where
  others_are : (c : ℕ) → In c (flat_map (others_in places class) (ranges_of rows class)) → (c < 0 + length p.classes) × ((is_under p c class && not (nat_eq c class)) ≡ true)
  others_are c i =
      let f = in_flat (others_in places class) (ranges_of rows class) c i in
      let o = other_of places class f.range c f.there in
      let s = (h.are class l).sound o.number (any_passes_from_place (in_range o.number) (ranges_of rows class) f.place f.range f.is o.within) in
      let is = o.is in
      let short = place_short (length p.classes) numbers places b o.number s.0 in
      (omega (arith, is, short), both (is_under p c class) (not (nat_eq c class)) (ap (λ w. is_under p w class) is ∙ s.1) o.other)

  are_others : (c : ℕ) → c < length p.classes → (is_under p c class && not (nat_eq c class)) ≡ true → In c (flat_map (others_in places class) (ranges_of rows class))
  are_others c short e =
      let k : ℕ = slice_index numbers c in
      let back : slice_index places k ≡ c = place_of_number (length p.classes) numbers places b c short in
      let under = and_left (is_under p c class) (not (nat_eq c class)) e in
      let a = has_at k (ranges_of rows class) ((h.are class l).complete k (number_short (length p.classes) numbers places b c short) (ap (λ w. is_under p w class) back ∙ under)) in
      flat_in (others_in places class) (ranges_of rows class) a.place a.one c a.is
      (of_other places class a.one c (record { number = k; within = a.has; is = sym back; other = and_right (is_under p c class) (not (nat_eq c class)) e }))

  -- a list that rises and has just these
  pub subclasses_are : (others sorted : List ℕ) → others ≡ flat_map (others_in places class) (ranges_of rows class) → IsStrictlyIncreasing sorted → ((c : ℕ) → Contains others c → Contains sorted c) → ((c : ℕ) → Contains sorted c → Contains others c) → sorted ≡ subclasses_of p class
  subclasses_are others sorted e up there from = rises_is (length p.classes) 0 (λ c. is_under p c class && not (nat_eq c class)) sorted (rises_from 0 sorted (λ l. omega arith) up)
      (λ c i. others_are c (subst (In c) e (contains_in others c (from c (in_contains sorted c i)))))
      (λ c low m f. contains_in sorted c (there c (in_contains others c (subst (In c) (sym e) (are_others c (omega (arith, m)) f)))))
