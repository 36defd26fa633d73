-- Which of some lists are different, where they begin, and when fewer or shorter ones begin no later.
use Rattle.std.proofs.Common.{◌≡◌, ◌⊎◌, inl, inr, ℕ, suc, ◌+◌, ◌≤◌, ◌<◌, max, Bool, true, false, ◌||◌, List, [], ◌∷◌, ◌++◌, length, refl, sym, ap, ◌∙◌, subst, arith, All}
use Rattle.std.specs.Prelude.{nat_lt, if◌then◌else◌}
use Rattle.std.specs.List.{list_any}
use Rattle.std.specs.Cmp.Lexicographic.{same_text, other_text}
use Rattle.std.proofs.lemmas.Bool.{ltb-true, ltb-false}
use Rattle.std.proofs.lemmas.List.Elements.{All-nil, All-cons, All-head, All-tail}
use Rattle.lemmas.proofs.Bools.{clash, or_false_left, or_false_right}
use Rattle.dex_base.specs.Leb.{uleb_text}
use Rattle.dex_defs.specs.LaysOut.{is_same, distinct, insert, by_length, begins_from}
use Rattle.layout_law.proofs.Numbers.{uleb_rises}

abbrev pub Text : Type 0
Text = List ℕ

-- a list is among some
abbrev pub In : Text → List Text → Type 0
In x [] = ⊥
In x (y ∷ ys) = (y ≡ x) ⊎ In x ys

-- ---- different ones

found : (x : Text) (ys : List Text) → list_any (is_same x) ys ≡ true → In x ys
found x [] e = clash false e refl
found x (y ∷ ys) e = by (is_same x y) refl e (found x ys)
  where
    by : (b : Bool) → is_same x y ≡ b → (b || list_any (is_same x) ys) ≡ true → (list_any (is_same x) ys ≡ true → In x ys) → In x (y ∷ ys)
    by true h k later = inl (sym (same_text x y (sym h)))
    by false h k later = inr (later k)

missing : (x : Text) (ys : List Text) → list_any (is_same x) ys ≡ false → In x ys → ⊥
missing x [] e i = i
missing x (y ∷ ys) e (inl s) = other_text x y (sym (or_false_left (is_same x y) (list_any (is_same x) ys) e)) (sym s)
missing x (y ∷ ys) e (inr i) = missing x ys (or_false_right (is_same x y) (list_any (is_same x) ys) e) i

in_end : (x : Text) (ys : List Text) → In x (ys ++ x ∷ [])
in_end x [] = inl refl
in_end x (y ∷ ys) = inr (in_end x ys)

in_front : (x z : Text) (ys : List Text) → In z ys → In z (ys ++ x ∷ [])
in_front x z [] i = absurd i
in_front x z (y ∷ ys) (inl e) = inl e
in_front x z (y ∷ ys) (inr i) = inr (in_front x z ys i)

in_either : (x z : Text) (ys : List Text) → In z (ys ++ x ∷ []) → In z ys ⊎ (x ≡ z)
in_either x z [] (inl e) = inr e
in_either x z [] (inr i) = absurd i
in_either x z (y ∷ ys) (inl e) = inl (inl e)
in_either x z (y ∷ ys) (inr i) = elim (in_either x z ys i) [ inl j ↦ inl (inr j) | inr e ↦ inr e ]

-- none stands twice
abbrev pub AreApart : List Text → Type 0
AreApart [] = Unit {0}
AreApart (x ∷ xs) = (In x xs → ⊥) × AreApart xs

apart_end : (x : Text) (ys : List Text) → AreApart ys → (In x ys → ⊥) → AreApart (ys ++ x ∷ [])
apart_end x [] a n = ((λ i. i), tt)
apart_end x (y ∷ ys) a n = (
  (λ i. elim (in_either x y ys i) [ inl j ↦ a.0 j | inr e ↦ n (inl (sym e)) ]),
  apart_end x ys a.1 (λ i. n (inr i)),
)

stays_in : (before xs : List Text) (z : Text) → In z before → In z (distinct before xs)
stays_in before [] z i = i
stays_in before (x ∷ xs) z i = by (list_any (is_same x) before) (stays_in before xs z i) (stays_in (before ++ x ∷ []) xs z (in_front x z before i))
  where
    by : (b : Bool) → In z (distinct before xs) → In z (distinct (before ++ x ∷ []) xs) → In z (if b then distinct before xs else distinct (before ++ x ∷ []) xs)
    by true j k = j
    by false j k = k

pub all_in : (before xs : List Text) (z : Text) → In z xs → In z (distinct before xs)
all_in before [] z i = absurd i
all_in before (x ∷ xs) z i = by (list_any (is_same x) before) refl i (all_in before xs z) (all_in (before ++ x ∷ []) xs z)
  where
    by : (b : Bool) → list_any (is_same x) before ≡ b → In z (x ∷ xs) → (In z xs → In z (distinct before xs)) → (In z xs → In z (distinct (before ++ x ∷ []) xs))
        → In z (if b then distinct before xs else distinct (before ++ x ∷ []) xs)
    by true e (inl s) old new = stays_in before xs z (subst (λ y. In y before) s (found x before e))
    by true e (inr j) old new = old j
    by false e (inl s) old new = stays_in (before ++ x ∷ []) xs z (subst (λ y. In y (before ++ x ∷ [])) s (in_end x before))
    by false e (inr j) old new = new j

pub from_either : (before xs : List Text) (z : Text) → In z (distinct before xs) → In z before ⊎ In z xs
from_either before [] z i = inl i
from_either before (x ∷ xs) z i = by (list_any (is_same x) before) i (from_either before xs z) (from_either (before ++ x ∷ []) xs z)
  where
    later : In z before ⊎ In z xs → In z before ⊎ In z (x ∷ xs)
    later (inl j) = inl j
    later (inr j) = inr (inr j)

    here : In z (before ++ x ∷ []) ⊎ In z xs → In z before ⊎ In z (x ∷ xs)
    here (inl j) = elim (in_either x z before j) [ inl k ↦ inl k | inr e ↦ inr (inl e) ]
    here (inr j) = inr (inr j)

    by : (b : Bool) → In z (if b then distinct before xs else distinct (before ++ x ∷ []) xs) → (In z (distinct before xs) → In z before ⊎ In z xs)
        → (In z (distinct (before ++ x ∷ []) xs) → In z (before ++ x ∷ []) ⊎ In z xs) → In z before ⊎ In z (x ∷ xs)
    by true j old new = later (old j)
    by false j old new = here (new j)

pub are_apart : (before xs : List Text) → AreApart before → AreApart (distinct before xs)
are_apart before [] a = a
are_apart before (x ∷ xs) a = by (list_any (is_same x) before) refl (are_apart before xs a) (are_apart (before ++ x ∷ []) xs)
  where
    by : (b : Bool) → list_any (is_same x) before ≡ b → AreApart (distinct before xs) → (AreApart (before ++ x ∷ []) → AreApart (distinct (before ++ x ∷ []) xs))
        → AreApart (if b then distinct before xs else distinct (before ++ x ∷ []) xs)
    by true e old new = old
    by false e old new = new (apart_end x before a (missing x before e))

-- ---- how many bytes they have

abbrev pub total : List Text → ℕ
total [] = 0
total (x ∷ xs) = length x + total xs

abbrev pub longest : List Text → ℕ
longest [] = 0
longest (x ∷ xs) = max (length x) (longest xs)

longest_total : (xs : List Text) → longest xs ≤ total xs
longest_total [] = omega arith
longest_total (x ∷ xs) = omega (arith, longest_total xs)

without : (x : Text) (ys : List Text) → In x ys → List Text
without x [] i = []
without x (y ∷ ys) (inl e) = ys
without x (y ∷ ys) (inr i) = y ∷ without x ys i

total_without : (x : Text) (ys : List Text) (i : In x ys) → total ys ≡ length x + total (without x ys i)
unfolding without
total_without x [] i = absurd i
total_without x (y ∷ ys) (inl e) = ap (λ (z : Text). length z + total ys) e
total_without x (y ∷ ys) (inr i) = let r = total_without x ys i in omega (arith, r)

longest_without : (x : Text) (ys : List Text) (i : In x ys) → longest ys ≡ max (length x) (longest (without x ys i))
unfolding without
longest_without x [] i = absurd i
longest_without x (y ∷ ys) (inl e) = ap (λ (z : Text). max (length z) (longest ys)) e
longest_without x (y ∷ ys) (inr i) = let r = longest_without x ys i in omega (arith, r)

count_without : (x : Text) (ys : List Text) (i : In x ys) → length ys ≡ suc (length (without x ys i))
unfolding without
count_without x [] i = absurd i
count_without x (y ∷ ys) (inl e) = refl
count_without x (y ∷ ys) (inr i) = ap suc (count_without x ys i)

others_stay : (x z : Text) (ys : List Text) (i : In x ys) → (z ≡ x → ⊥) → In z ys → In z (without x ys i)
unfolding without
others_stay x z [] i d j = absurd i
others_stay x z (y ∷ ys) (inl e) d (inl f) = absurd (d (sym f ∙ e))
others_stay x z (y ∷ ys) (inl e) d (inr j) = j
others_stay x z (y ∷ ys) (inr i) d (inl f) = inl f
others_stay x z (y ∷ ys) (inr i) d (inr j) = inr (others_stay x z ys i d j)

-- some lists are no more than others, have no more bytes, and none without the longest one of each
pub record AreFewer (xs ys : List Text) : Type 0 where
  pub count : length xs ≤ length ys
  pub bytes : total xs ≤ total ys
  pub before : total xs + longest ys ≤ total ys + longest xs

-- So it is where each of them, all being different, comes of one of the others that is no shorter, and of equal ones equal ones come.
module _ (Comes : Text → Text → Type 0) (one : (a b c : Text) → Comes a b → Comes a c → b ≡ c) (short : (a b : Text) → Comes a b → length b ≤ length a) where
  pub fewer : (xs ys : List Text) → AreApart xs → ((b : Text) → In b xs → (a : Text) × In a ys × Comes a b) → AreFewer xs ys
  fewer [] ys d h = record { count = omega arith; bytes = omega arith; before = omega (arith, longest_total ys) }
  fewer (x ∷ xs) ys d h =
      let a = h x (inl refl) in
      let rest = without a.0 ys a.1 in
      let r = fewer xs rest d.1 (λ b i.
      let c = h b (inr i) in (
        c.0,
        others_stay a.0 c.0 ys a.1 (λ e. d.0 (subst (λ z. In z xs) (one a.0 b x (subst (λ q. Comes q b) e c.2) a.2) i)) c.1,
        c.2,
      )) in
      let s = short a.0 x a.2 in
      let t = total_without a.0 ys a.1 in
      let l = longest_without a.0 ys a.1 in
      let n = count_without a.0 ys a.1 in
      record {
        count = omega (arith, n, r.count);
        bytes = omega (arith, t, s, r.bytes);
        before = before_with (length x) (length a.0) (total xs) (longest xs) (total rest) (longest rest) (total ys) (longest ys) s t l r.bytes r.before;
      }
    where
      before_with : (x a sum most rest_sum rest_most all_sum all_most : ℕ) → x ≤ a → all_sum ≡ a + rest_sum → all_most ≡ max a rest_most → sum ≤ rest_sum
          → sum + rest_most ≤ rest_sum + most → (x + sum) + all_most ≤ all_sum + max x most
      before_with x a sum most rest_sum rest_most all_sum all_most s t l b c = omega (arith, s, t, l, b, c)

-- ---- in the order of their lengths

-- the shorter ones first
abbrev AreAbove : ℕ → List Text → Type 0
AreAbove k [] = Unit {0}
AreAbove k (x ∷ xs) = (k ≤ length x) × AreAbove k xs

abbrev Ascend : List Text → Type 0
Ascend [] = Unit {0}
Ascend (x ∷ xs) = AreAbove (length x) xs × Ascend xs

above_lower : (j k : ℕ) (xs : List Text) → j ≤ k → AreAbove k xs → AreAbove j xs
above_lower j k [] l a = tt
above_lower j k (x ∷ xs) l a = (omega (arith, l, a.0), above_lower j k xs l a.1)

above_insert : (k : ℕ) (x : Text) (ys : List Text) → k ≤ length x → AreAbove k ys → AreAbove k (insert x ys)
above_insert k x [] l a = (l, tt)
above_insert k x (y ∷ ys) l a = by (nat_lt (length x) (length y)) (above_insert k x ys l a.1)
  where
    by : (b : Bool) → AreAbove k (insert x ys) → AreAbove k (if b then x ∷ (y ∷ ys) else y ∷ insert x ys)
    by true later = (l, a)
    by false later = (a.0, later)

ascend_insert : (x : Text) (ys : List Text) → Ascend ys → Ascend (insert x ys)
ascend_insert x [] a = (tt, tt)
ascend_insert x (y ∷ ys) a = by (nat_lt (length x) (length y)) refl (ascend_insert x ys a.1)
  where
    by : (b : Bool) → nat_lt (length x) (length y) ≡ b → Ascend (insert x ys) → Ascend (if b then x ∷ (y ∷ ys) else y ∷ insert x ys)
    by true e later =
        let l = ltb-true (length x) (length y) e in
        let m : length x ≤ length y = omega (arith, l) in
        ((m, above_lower (length x) (length y) ys m a.0), a)
    by false e later = (above_insert (length y) x ys (ltb-false (length x) (length y) e) a.0, later)

total_insert : (x : Text) (ys : List Text) → total (insert x ys) ≡ length x + total ys
total_insert x [] = refl
total_insert x (y ∷ ys) = by (nat_lt (length x) (length y)) (total_insert x ys)
  where
    by : (b : Bool) → total (insert x ys) ≡ length x + total ys → total (if b then x ∷ (y ∷ ys) else y ∷ insert x ys) ≡ length x + total (y ∷ ys)
    by true r = refl
    by false r = omega (arith, r)

longest_insert : (x : Text) (ys : List Text) → longest (insert x ys) ≡ max (length x) (longest ys)
longest_insert x [] = refl
longest_insert x (y ∷ ys) = by (nat_lt (length x) (length y)) (longest_insert x ys)
  where
    by : (b : Bool) → longest (insert x ys) ≡ max (length x) (longest ys) → longest (if b then x ∷ (y ∷ ys) else y ∷ insert x ys) ≡ max (length x) (longest (y ∷ ys))
    by true r = refl
    by false r = omega (arith, r)

count_insert : (x : Text) (ys : List Text) → length (insert x ys) ≡ suc (length ys)
count_insert x [] = refl
count_insert x (y ∷ ys) = by (nat_lt (length x) (length y)) (count_insert x ys)
  where
    by : (b : Bool) → length (insert x ys) ≡ suc (length ys) → length (if b then x ∷ (y ∷ ys) else y ∷ insert x ys) ≡ suc (length (y ∷ ys))
    by true r = refl
    by false r = ap suc r

ascend_by : (sorted xs : List Text) → Ascend sorted → Ascend (by_length sorted xs)
ascend_by sorted [] a = a
ascend_by sorted (x ∷ xs) a = ascend_by (insert x sorted) xs (ascend_insert x sorted a)

total_by : (sorted xs : List Text) → total (by_length sorted xs) ≡ total sorted + total xs
total_by sorted [] = omega arith
total_by sorted (x ∷ xs) = omega (arith, total_by (insert x sorted) xs, total_insert x sorted)

longest_by : (sorted xs : List Text) → longest (by_length sorted xs) ≡ max (longest sorted) (longest xs)
longest_by sorted [] = omega arith
longest_by sorted (x ∷ xs) = omega (arith, longest_by (insert x sorted) xs, longest_insert x sorted)

count_by : (sorted xs : List Text) → length (by_length sorted xs) ≡ length sorted + length xs
count_by sorted [] = omega arith
count_by sorted (x ∷ xs) = omega (arith, count_by (insert x sorted) xs, count_insert x sorted)

-- ---- where they begin

abbrev pub AreLow : List ℕ → Type 0
AreLow places = All (λ at. at ≤ 65535) places

fits_from : (at : ℕ) (xs : List Text) → Ascend xs → (0 < length xs → at + total xs ≤ 65535 + longest xs) → AreLow (begins_from at xs)
fits_from at [] a h = All-nil (λ at. at ≤ 65535)
fits_from at (x ∷ []) a h = All-cons (λ at. at ≤ 65535) at [] (omega (arith, h (omega arith))) (All-nil (λ at. at ≤ 65535))
fits_from at (x ∷ y ∷ ys) a h =
    let g : at + total (x ∷ y ∷ ys) ≤ 65535 + longest (x ∷ y ∷ ys) = h (omega arith) in
    let l : length x ≤ length y = a.0.0 in
    let m = longest_total (y ∷ ys) in
    All-cons (λ at. at ≤ 65535) at (begins_from (at + length x) (y ∷ ys)) (omega (arith, g, l, m)) (fits_from (at + length x) (y ∷ ys) a.1 (λ s. omega (arith, g, l, m)))

fitted : (at : ℕ) (xs : List Text) → 0 < length xs → AreLow (begins_from at xs) → at + total xs ≤ 65535 + longest xs
fitted at [] s h = absurd (omega (arith, s))
fitted at (x ∷ []) s h = let l = All-head (λ at. at ≤ 65535) at [] h in omega (arith, l)
fitted at (x ∷ y ∷ ys) s h =
    let r = fitted (at + length x) (y ∷ ys) (omega arith) (All-tail (λ at. at ≤ 65535) at (begins_from (at + length x) (y ∷ ys)) h) in
    omega (arith, r)

-- behind the count
abbrev pub written : List Text → List Text
written xs = by_length [] (distinct [] xs)

abbrev pub begins_of : List Text → List ℕ
begins_of xs = begins_from (length (uleb_text (length (written xs)))) (written xs)

pub fewer_begin : (xs ys : List Text) → AreFewer (distinct [] xs) (distinct [] ys) → AreLow (begins_of ys) → AreLow (begins_of xs)
fewer_begin xs ys f low = fits_from (length (uleb_text (length (written xs)))) (written xs) (ascend_by [] (distinct [] xs) tt) (λ some.
    let g = fitted (length (uleb_text (length (written ys)))) (written ys) (omega (arith, some, count_by [] (distinct [] xs), count_by [] (distinct [] ys), f.count)) low in
    omega (arith, g, head, total_by [] (distinct [] xs), total_by [] (distinct [] ys), longest_by [] (distinct [] xs), longest_by [] (distinct [] ys), f.before))
  where
    head : length (uleb_text (length (written xs))) ≤ length (uleb_text (length (written ys)))
    head = uleb_rises (length (written xs)) (length (written ys)) (omega (arith, count_by [] (distinct [] xs), count_by [] (distinct [] ys), f.count))

-- lists of which all but a longest one have few bytes begin low
pub begins_low : (xs : List Text) → (0 < length (distinct [] xs) → length (uleb_text (length (distinct [] xs))) + total (distinct [] xs) ≤ 65535 + longest (distinct [] xs)) → AreLow (begins_of xs)
begins_low xs h = fits_from (length (uleb_text (length (written xs)))) (written xs) (ascend_by [] (distinct [] xs) tt) (λ some.
    let same : length (written xs) ≡ length (distinct [] xs) = omega (arith, count_by [] (distinct [] xs)) in
    let head : length (uleb_text (length (written xs))) ≡ length (uleb_text (length (distinct [] xs))) = ap (λ n. length (uleb_text n)) same in
    let g = h (omega (arith, some, same)) in
    omega (arith, g, head, total_by [] (distinct [] xs), longest_by [] (distinct [] xs)))
