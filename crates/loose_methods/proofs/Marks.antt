-- Marks on numbers that are set and taken.
use Rattle.std.proofs.Common.{◌≡◌, ℕ, zero, suc, ◌+◌, ◌<◌, ◌⊎◌, inl, inr, Bool, true, false, true≢false, nat_eq, List, [], ◌∷◌, ◌++◌, length, replicate, get_or, take, Some, None, refl, sym, ap, ◌∙◌, arith}
use Rattle.std.specs.Prelude.{◌&&◌, ◌||◌, not, slice_set}
use Rattle.std.specs.List.{list_any}
use Rattle.std.proofs.lemmas.List.{take_more}
use Rattle.class_defs.proofs.Positions.{number_of, number_test}
use Rattle.loose_methods.specs.Loose.{is_this}
use Rattle.loose_methods.specs.Marking.{is_on, turned_on}

pub and_true : (b : Bool) → (b && true) ≡ b
and_true true = refl
and_true false = refl

pub same_or : (a b : ℕ) → (a ≡ b) ⊎ (a ≡ b → ⊥)
same_or a b = by (nat_eq a b) refl
  where
    by : (t : Bool) → nat_eq a b ≡ t → (a ≡ b) ⊎ (a ≡ b → ⊥)
    by true e = inl (number_of a b e)
    by false e = inr (λ s. true≢false (sym (number_test a b s) ∙ e))

pub differ_test : (a b : ℕ) → (a ≡ b → ⊥) → nat_eq a b ≡ false
differ_test a b h = by (nat_eq a b) refl
  where
    by : (t : Bool) → nat_eq a b ≡ t → nat_eq a b ≡ false
    by true e = absurd (h (number_of a b e))
    by false e = e

-- ---- one number

pub set_off : (ms : List Bool) (n : ℕ) → is_on (slice_set ms n false) n ≡ false
set_off [] n = refl
set_off (m ∷ ms) zero = refl
set_off (m ∷ ms) (suc n) = set_off ms n

pub set_on : (ms : List Bool) (n : ℕ) → n < length ms → is_on (slice_set ms n true) n ≡ true
set_on [] n lt = absurd (omega (arith, lt))
set_on (m ∷ ms) zero lt = refl
set_on (m ∷ ms) (suc n) lt = set_on ms n (omega (arith, lt))

pub set_kept : (on : Bool) (ms : List Bool) (x n : ℕ) → (x ≡ n → ⊥) → is_on (slice_set ms x on) n ≡ is_on ms n
set_kept on [] x n h = refl
set_kept on (m ∷ ms) zero zero h = absurd (h refl)
set_kept on (m ∷ ms) zero (suc n) h = refl
set_kept on (m ∷ ms) (suc x) zero h = refl
set_kept on (m ∷ ms) (suc x) (suc n) h = set_kept on ms x n (λ e. h (ap suc e))

pub set_long : (on : Bool) (ms : List Bool) (x : ℕ) → length (slice_set ms x on) ≡ length ms
set_long on [] x = refl
set_long on (m ∷ ms) zero = refl
set_long on (m ∷ ms) (suc x) = ap suc (set_long on ms x)

pub set_stays : (ms : List Bool) (x n : ℕ) → x < length ms → is_on ms n ≡ true → is_on (slice_set ms x true) n ≡ true
set_stays ms x n lt e = elim (same_or x n) [ inl s ↦ ap (λ y. is_on (slice_set ms y true) n) s ∙ set_on ms n (let l : n < length ms = omega (arith, s, lt) in l) | inr h ↦ set_kept true ms x n h ∙ e ]

pub set_from : (ms : List Bool) (x n : ℕ) → is_on (slice_set ms x true) n ≡ true → (is_on ms n ≡ true) ⊎ (x ≡ n)
set_from ms x n e = elim (same_or x n) [ inl s ↦ inr s | inr h ↦ inl (sym (set_kept true ms x n h) ∙ e) ]

-- the mark of a number is taken, if there is one
pub off_at : (ms : List Bool) (x n : ℕ) → is_on (slice_set ms x false) n ≡ (is_on ms n && not (nat_eq x n))
off_at ms x n = elim (same_or x n) [
  | inl s ↦ ap (λ y. is_on (slice_set ms y false) n) s ∙ set_off ms n ∙ sym (ap (λ b. is_on ms n && not b) (number_test x n s) ∙ gone (is_on ms n))
  | inr h ↦ set_kept false ms x n h ∙ sym (ap (λ b. is_on ms n && not b) (differ_test x n h) ∙ and_true (is_on ms n))
]
  where
    gone : (b : Bool) → (b && false) ≡ false
    gone true = refl
    gone false = refl

pub barred : (old new : List Bool) (x n : ℕ) → new ≡ slice_set old x false → is_on new n ≡ (is_on old n && not (is_this n (Some x)))
barred old new x n e = ap (λ l. is_on l n) e ∙ off_at old x n

pub unbarred : (old new : List Bool) (n : ℕ) → new ≡ old → is_on new n ≡ (is_on old n && not (is_this n None))
unbarred old new n e = ap (λ l. is_on l n) e ∙ sym (and_true (is_on old n))

pub barred_long : (old new : List Bool) (x : ℕ) → new ≡ slice_set old x false → length new ≡ length old
barred_long old new x e = ap length e ∙ set_long false old x

-- ---- none

pub none_on : (size n : ℕ) → is_on (replicate size false) n ≡ false
none_on zero n = refl
none_on (suc size) zero = refl
none_on (suc size) (suc n) = none_on size n

pub replicate_long : (size : ℕ) → length (replicate size false) ≡ size
replicate_long zero = refl
replicate_long (suc size) = ap suc (replicate_long size)

-- ---- several numbers

turned_end : (ms : List Bool) (xs : List ℕ) (x : ℕ) → turned_on ms (xs ++ x ∷ []) ≡ slice_set (turned_on ms xs) x true
turned_end ms [] x = refl
turned_end ms (y ∷ xs) x = turned_end (slice_set ms y true) xs x

pub turned_more : (ms now new : List Bool) (xs : List ℕ) (i d : ℕ) → i < length xs → now ≡ turned_on ms (take i xs) → new ≡ slice_set now (get_or xs i d) true → new ≡ turned_on ms (take (i + 1) xs)
turned_more ms now new xs i d lt e f = f ∙ ap (λ l. slice_set l (get_or xs i d) true) e ∙ sym (turned_end ms (take i xs) (get_or xs i d)) ∙ ap (turned_on ms) (sym (take_more xs i d lt))

pub turned_long : (ms : List Bool) (xs : List ℕ) → length (turned_on ms xs) ≡ length ms
turned_long ms [] = refl
turned_long ms (x ∷ xs) = turned_long (slice_set ms x true) xs ∙ set_long true ms x

or_same : (a b : Bool) → (a || (true || b)) ≡ true
or_same true b = refl
or_same false b = refl

or_skip : (a b : Bool) → (a || (false || b)) ≡ (a || b)
or_skip a b = refl

pub turned_at : (ms : List Bool) (xs : List ℕ) (n : ℕ) → n < length ms → is_on (turned_on ms xs) n ≡ (is_on ms n || list_any (nat_eq n) xs)
turned_at ms [] n lt = end (is_on ms n)
  where
    end : (b : Bool) → b ≡ (b || false)
    end true = refl
    end false = refl
turned_at ms (x ∷ xs) n lt =
    turned_at (slice_set ms x true) xs n (omega (arith, lt, longer))
    ∙ elim (same_or x n) [
      | inl s ↦ ap (λ b. b || list_any (nat_eq n) xs) (ap (λ y. is_on (slice_set ms y true) n) s ∙ set_on ms n lt) ∙ sym (ap (λ b. is_on ms n || (b || list_any (nat_eq n) xs)) (number_test n x (sym s)) ∙ or_same (is_on ms n) (list_any (nat_eq n) xs))
      | inr h ↦ ap (λ b. b || list_any (nat_eq n) xs) (set_kept true ms x n h) ∙ sym (ap (λ b. is_on ms n || (b || list_any (nat_eq n) xs)) (differ_test n x (λ e. h (sym e))))
    ]
  where
    longer : length (slice_set ms x true) ≡ length ms
    longer = set_long true ms x

-- a mark that is set is one of some number
pub short_on : (ms : List Bool) (n : ℕ) → is_on ms n ≡ true → n < length ms
short_on [] n e = absurd (true≢false (sym e))
short_on (m ∷ ms) zero e = omega arith
short_on (m ∷ ms) (suc n) e = let r = short_on ms n e in omega (arith, r)
