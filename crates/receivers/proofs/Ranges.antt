-- Numbers of ranges, and those of them that pass a test.
use Rattle.std.proofs.Common.{◌≡◌, ◌⊎◌, inl, inr, ℕ, zero, suc, ◌+◌, ◌<◌, ◌≤◌, Bool, true, false, true≢false, List, [], ◌∷◌, length, Some, refl, sym, ap, ◌∙◌, subst, arith}
use Rattle.std.specs.Prelude.{◌&&◌, Contains, cond, nat_eq, not, slice_get}
use Rattle.std.specs.List.{filter, list_all, range_with_len}
use Rattle.std.proofs.lemmas.Bool.{cases_lt}
use Rattle.lemmas.proofs.Lists.{contains_here, contains_there}
use Rattle.program_model.specs.declared.program.Program.{Program}
use Rattle.class_defs.specs.Places.{is_under}
use Rattle.hierarchy.specs.Climbing.{In}
use Rattle.hierarchy.specs.Touring.{subclasses_of}

pub numbers_in : (a n k : ℕ) → a ≤ k → k < a + n → In k (range_with_len a n)
numbers_in a zero k l m = absurd (omega (arith, l, m))
numbers_in a (suc n) k l m = by (same_or_more a k l) (numbers_in (a + 1) n k)
  where
    same_or_more : (a k : ℕ) → a ≤ k → (k ≡ a) ⊎ (a + 1 ≤ k)
    same_or_more zero zero l = inl refl
    same_or_more zero (suc k) l = inr (omega arith)
    same_or_more (suc a) zero l = absurd (omega (arith, l))
    same_or_more (suc a) (suc k) l = elim (same_or_more a k (omega (arith, l))) [ inl e ↦ inl (ap suc e) | inr m ↦ inr (omega (arith, m)) ]

    by : (k ≡ a) ⊎ (a + 1 ≤ k) → (a + 1 ≤ k → k < a + 1 + n → In k (range_with_len (a + 1) n)) → In k (a ∷ range_with_len (a + 1) n)
    by (inl e) more = inl e
    by (inr f) more = inr (more f (omega (arith, m)))

pub in_numbers : (a n k : ℕ) → In k (range_with_len a n) → (a ≤ k) × (k < a + n)
in_numbers a zero k i = absurd i
in_numbers a (suc n) k (inl e) = (omega (arith, e), omega (arith, e))
in_numbers a (suc n) k (inr i) = let r = in_numbers (a + 1) n k i in let l = r.0 in let m = r.1 in (omega (arith, l), omega (arith, m))

pub in_filter : (t : ℕ → Bool) (xs : List ℕ) (c : ℕ) → In c (filter t xs) → In c xs × (t c ≡ true)
in_filter t [] c i = absurd i
in_filter t (x ∷ xs) c i = by (t x) refl i (in_filter t xs c)
  where
    by : (b : Bool) → t x ≡ b → In c (cond b (x ∷ filter t xs) (filter t xs)) → (In c (filter t xs) → In c xs × (t c ≡ true)) → In c (x ∷ xs) × (t c ≡ true)
    by true e (inl s) more = (inl s, ap t s ∙ e)
    by true e (inr j) more = let r = more j in (inr r.0, r.1)
    by false e j more = let r = more j in (inr r.0, r.1)

pub filter_in : (t : ℕ → Bool) (xs : List ℕ) (c : ℕ) → In c xs → t c ≡ true → In c (filter t xs)
filter_in t [] c i e = absurd i
filter_in t (x ∷ xs) c (inl s) e = subst (λ b. In c (cond b (x ∷ filter t xs) (filter t xs))) (sym (ap t (sym s) ∙ e)) (inl s)
filter_in t (x ∷ xs) c (inr i) e = by (t x) (filter_in t xs c i e)
  where
    by : (b : Bool) → In c (filter t xs) → In c (cond b (x ∷ filter t xs) (filter t xs))
    by true j = inr j
    by false j = j

pub in_contains : (xs : List ℕ) (c : ℕ) → In c xs → Contains xs c
in_contains [] c i = absurd i
in_contains (x ∷ xs) c (inl e) = subst (λ y. Contains (x ∷ xs) y) (sym e) (contains_here x xs)
in_contains (x ∷ xs) c (inr i) = contains_there x xs c (in_contains xs c i)

-- a list passes a test where each of its items does
pub all_pass : (t : ℕ → Bool) (xs : List ℕ) → ((c : ℕ) → In c xs → t c ≡ true) → list_all t xs ≡ true
all_pass t [] h = refl
all_pass t (x ∷ xs) h = ap (λ b. b && list_all t xs) (h x (inl refl)) ∙ all_pass t xs (λ c i. h c (inr i))

pub passes_all : (t : ℕ → Bool) (xs : List ℕ) (c : ℕ) → list_all t xs ≡ true → In c xs → t c ≡ true
passes_all t [] c e i = absurd i
passes_all t (x ∷ xs) c e i = by (t x) refl e i (λ f j. passes_all t xs c f j)
  where
    by : (b : Bool) → t x ≡ b → (b && list_all t xs) ≡ true → In c (x ∷ xs) → (list_all t xs ≡ true → In c xs → t c ≡ true) → t c ≡ true
    by true e f (inl s) more = ap t s ∙ e
    by true e f (inr j) more = more f j
    by false e f j more = absurd (true≢false (sym f))

pub in_at : (xs : List ℕ) (c : ℕ) → In c xs → (k : ℕ) × (slice_get xs k ≡ Some c)
in_at [] c i = absurd i
in_at (x ∷ xs) c (inl e) = (0, ap Some (sym e))
in_at (x ∷ xs) c (inr i) = let r = in_at xs c i in (suc r.0, r.1)

pub at_in : (xs : List ℕ) (k c : ℕ) → slice_get xs k ≡ Some c → In c xs
at_in [] k c e = cc
at_in (x ∷ xs) zero c e = inl (let s : x ≡ c = cc in sym s)
at_in (x ∷ xs) (suc k) c e = inr (at_in xs k c e)

-- one number more
pub all_numbers_more : (t : ℕ → Bool) (n : ℕ) → list_all t (range_with_len 0 n) ≡ true → t n ≡ true → list_all t (range_with_len 0 (n + 1)) ≡ true
all_numbers_more t n e f = all_pass t (range_with_len 0 (n + 1)) (λ c i. by c (in_numbers 0 (n + 1) c i).1 (cases_lt c n))
  where
    by : (c : ℕ) → c < 0 + (n + 1) → (c < n) ⊎ (n ≤ c) → t c ≡ true
    by c l (inl m) = passes_all t (range_with_len 0 n) c e (numbers_in 0 n c (omega arith) (omega (arith, m)))
    by c l (inr m) = let same : c ≡ n = omega (arith, l, m) in ap t same ∙ f

-- the classes under a class are classes
pub subclasses_short : (p : Program) (class k c : ℕ) → slice_get (subclasses_of p class) k ≡ Some c → c < length p.classes
subclasses_short p class k c e =
    let f = in_filter (λ d. is_under p d class && not (nat_eq d class)) (range_with_len 0 (length p.classes)) c (at_in (subclasses_of p class) k c e) in
    let n = (in_numbers 0 (length p.classes) c f.0).1 in omega (arith, n)
