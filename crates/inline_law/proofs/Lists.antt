-- What a search finds; registers in front of others, and arguments that are written one by one.
use Rattle.std.proofs.Common.{◌≡◌, Bool, true, false, ℕ, zero, suc, ◌+◌, ◌<◌, ◌≤◌, List, [], ◌∷◌, ◌++◌, length, refl, sym, ap, ◌∙◌, subst, arith}
use Rattle.std.specs.Prelude.{Some, cond, find, nat_eq, slice_set, slice_index_or, replicate}
use Rattle.lemmas.proofs.Numbers.{same_number}
use Rattle.lemmas.proofs.Options.{none_some, some_same}
use Rattle.dalvik_defs.specs.Names.{Text, text_eq}
use Rattle.dalvik_defs.specs.declared.state.Value.{Value}
use Rattle.program_laws.proofs.ChangedLists.{and_both}
use Rattle.program_laws.specs.Agree.{Agree}
use Rattle.program_laws.proofs.Agree.{agree_refl}

pub find_passes : {X : Type 0} (test : X → Bool) (xs : List X) (x : X) → find test xs ≡ Some x → test x ≡ true
find_passes test [] x e = none_some x e
find_passes {X} test (y ∷ xs) x e = by (test y) refl e (find_passes test xs x)
  where
    by : (b : Bool) → test y ≡ b → cond b (Some y) (find test xs) ≡ Some x → (find test xs ≡ Some x → test x ≡ true) → test x ≡ true
    by true t i h = subst (λ z. test z ≡ true) (some_same y x i) t
    by false t i h = h i

pub text_same : (t : Text) → text_eq t t ≡ true
text_same [] = refl
text_same (x ∷ xs) = and_both (nat_eq x x) (text_eq xs xs) (same_number x) (text_same xs)

-- ---- registers

pub index_low : (xs ys : List Value) (n : ℕ) (d : Value) → n < length xs → slice_index_or (xs ++ ys) n d ≡ slice_index_or xs n d
index_low [] ys n d l = let f : ⊥ = omega (arith, l) in absurd f
index_low (x ∷ xs) ys zero d l = refl
index_low (x ∷ xs) ys (suc n) d l = index_low xs ys n d (omega (arith, l))

pub index_high : (xs ys : List Value) (n i : ℕ) (d : Value) → i ≡ length xs + n → slice_index_or (xs ++ ys) i d ≡ slice_index_or ys n d
index_high [] ys n i d e = let q : i ≡ n = omega (arith, e) in ap (λ k. slice_index_or ys k d) q
index_high (x ∷ xs) ys n zero d e = let f : ⊥ = omega (arith, e) in absurd f
index_high (x ∷ xs) ys n (suc i) d e = index_high xs ys n i d (omega (arith, e))

pub set_low : (xs ys : List Value) (n : ℕ) (v : Value) → n < length xs → slice_set (xs ++ ys) n v ≡ slice_set xs n v ++ ys
set_low [] ys n v l = let f : ⊥ = omega (arith, l) in absurd f
set_low (x ∷ xs) ys zero v l = refl
set_low (x ∷ xs) ys (suc n) v l = ap (λ l. x ∷ l) (set_low xs ys n v (omega (arith, l)))

pub set_high : (xs ys : List Value) (n i : ℕ) (v : Value) → i ≡ length xs + n → slice_set (xs ++ ys) i v ≡ xs ++ slice_set ys n v
set_high [] ys n i v e = let q : i ≡ n = omega (arith, e) in ap (λ k. slice_set ys k v) q
set_high (x ∷ xs) ys n zero v e = let f : ⊥ = omega (arith, e) in absurd f
set_high (x ∷ xs) ys n (suc i) v e = ap (λ l. x ∷ l) (set_high xs ys n i v (omega (arith, e)))

pub set_length : (xs : List Value) (n : ℕ) (v : Value) → length (slice_set xs n v) ≡ length xs
set_length [] n v = refl
set_length (x ∷ xs) zero v = refl
set_length (x ∷ xs) (suc n) v = ap suc (set_length xs n v)

pub append_length : (xs ys : List Value) → length (xs ++ ys) ≡ length xs + length ys
append_length [] ys = omega arith
append_length (x ∷ xs) ys = let e = append_length xs ys in omega (arith, e)

pub agree_length : (P : ℕ → Type 0) (xs ys : List Value) → Agree P xs ys → length xs ≡ length ys
agree_length P [] [] a = refl
agree_length P [] (y ∷ ys) a = absurd a
agree_length P (x ∷ xs) [] a = absurd a
agree_length P (x ∷ xs) (y ∷ ys) a = ap suc (agree_length (λ r. P (suc r)) xs ys a.1)

-- a list is cut at a place
pub cut : (n : ℕ) (xs : List Value) → n ≤ length xs → (ys : List Value) × ((zs : List Value) × ((xs ≡ ys ++ zs) × (length ys ≡ n)))
cut zero xs l = ([], (xs, (refl, refl)))
cut (suc n) [] l = let f : ⊥ = omega (arith, l) in absurd f
cut (suc n) (x ∷ xs) l = let r = cut n xs (omega (arith, l)) in (x ∷ r.0, (r.1.0, (ap (λ l. x ∷ l) r.1.1.0, ap suc r.1.1.1)))

-- values that are written one behind the other
abbrev pub overwritten : List Value → ℕ → List Value → List Value
overwritten xs n [] = xs
overwritten xs n (v ∷ vs) = overwritten (slice_set xs n v) (n + 1) vs

pub overwritten_length : (vs xs : List Value) (n : ℕ) → length (overwritten xs n vs) ≡ length xs
overwritten_length [] xs n = refl
overwritten_length (v ∷ vs) xs n = overwritten_length vs (slice_set xs n v) (n + 1) ∙ set_length xs n v

one_on : (n : ℕ) → suc n + 1 ≡ suc (n + 1)
one_on n = omega arith

overwritten_behind : (vs : List Value) (x : Value) (xs : List Value) (n : ℕ) → overwritten (x ∷ xs) (suc n) vs ≡ x ∷ overwritten xs n vs
overwritten_behind [] x xs n = refl
overwritten_behind (v ∷ vs) x xs n = ap (λ k. overwritten (x ∷ slice_set xs n v) k vs) (one_on n) ∙ overwritten_behind vs x (slice_set xs n v) (n + 1)

overwritten_all : (vs xs : List Value) → length xs ≡ length vs → overwritten xs 0 vs ≡ vs
overwritten_all [] [] e = refl
overwritten_all [] (x ∷ xs) e = let f : ⊥ = omega (arith, e) in absurd f
overwritten_all (v ∷ vs) [] e = let f : ⊥ = omega (arith, e) in absurd f
overwritten_all (v ∷ vs) (x ∷ xs) e = overwritten_behind vs v xs 0 ∙ ap (λ l. v ∷ l) (overwritten_all vs xs (omega (arith, e)))

-- the registers of an entry, where no more is asked of than the arguments
pub agree_entry : (P : ℕ → Type 0) (d : ℕ) (z : Value) (vs xs : List Value) → ((r : ℕ) → P r → d ≤ r) → length xs ≡ d + length vs → Agree P (replicate d z ++ vs) (overwritten xs d vs)
agree_entry P zero z vs xs h e = let q : length xs ≡ length vs = omega (arith, e) in subst (λ l. Agree P vs l) (sym (overwritten_all vs xs q)) (agree_refl P vs)
agree_entry P (suc d) z vs [] h e = let f : ⊥ = omega (arith, e) in absurd f
agree_entry P (suc d) z vs (x ∷ xs) h e = subst (λ l. Agree P (z ∷ (replicate d z ++ vs)) l) (sym (overwritten_behind vs x xs d))
    (λ p. let f : ⊥ = omega (arith, h 0 p) in absurd f, agree_entry (λ r. P (suc r)) d z vs xs (λ r p. omega (arith, h (suc r) p)) (omega (arith, e)))
