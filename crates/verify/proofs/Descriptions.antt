-- Descriptors and texts.
use Rattle.std.proofs.Common.{◌≡◌, ℕ, zero, suc, ◌+◌, ◌<◌, ◌≤◌, Bool, true, false, List, [], ◌∷◌, length, drop, get_or, Option, Some, None, refl, sym, ap, subst, ◌∙◌, arith}
use Rattle.std.specs.Prelude.{cond, nat_eq}
use Rattle.std.specs.Cmp.Lexicographic.{bytes_decides}
use Rattle.std.specs.Option.{option_or}
use Rattle.class_defs.proofs.Positions.{number_test, number_of}
use Rattle.verify.specs.Descriptors.{same_text, brackets, without_brackets}

pub text_same : (t : List ℕ) → same_text t t ≡ true
text_same t = (bytes_decides t t).1 refl

pub text_is : (t u : List ℕ) → same_text t u ≡ true → t ≡ u
text_is t u = (bytes_decides t u).0

-- ---- brackets

-- a unit that is a bracket is left away
rest_more : (us : List ℕ) (i d : ℕ) → i < length us → get_or us i d ≡ 91 → without_brackets (drop (suc i) us) ≡ without_brackets (drop i us)
rest_more [] i d lt e = absurd (omega (arith, lt))
rest_more (u ∷ us) zero d lt e = sym (ap (λ b. cond b (without_brackets us) (u ∷ us)) (number_test u 91 e))
rest_more (u ∷ us) (suc i) d lt e = rest_more us i d (omega (arith, lt)) e

pub rest_on : (us : List ℕ) (n i d : ℕ) → n ≡ i → i < length us → get_or us i d ≡ 91 → without_brackets (drop (n + 1) us) ≡ without_brackets (drop n us)
rest_on us n i d same lt e = ap (λ k. without_brackets (drop k us)) (let s : n + 1 ≡ suc i = omega (arith, same) in s) ∙ rest_more us i d lt e ∙ ap (λ k. without_brackets (drop k us)) (sym same)

count_more : (us : List ℕ) (i d : ℕ) → i < length us → get_or us i d ≡ 91 → suc (brackets (drop (suc i) us)) ≡ brackets (drop i us)
count_more [] i d lt e = absurd (omega (arith, lt))
count_more (u ∷ us) zero d lt e = sym (ap (λ b. cond b (suc (brackets us)) 0) (number_test u 91 e))
count_more (u ∷ us) (suc i) d lt e = count_more us i d (omega (arith, lt)) e

pub count_on : (us : List ℕ) (n i d : ℕ) → n ≡ i → i < length us → get_or us i d ≡ 91 → brackets us ≡ n + brackets (drop n us) → brackets us ≡ n + 1 + brackets (drop (n + 1) us)
count_on us n i d same lt e so_far =
    let a : n + 1 ≡ suc i = omega (arith, same) in
    let f : brackets (drop (n + 1) us) ≡ brackets (drop (suc i) us) = ap (λ k. brackets (drop k us)) a in
    let g : brackets (drop n us) ≡ brackets (drop i us) = ap (λ k. brackets (drop k us)) same in
    let h = count_more us i d lt e in
    omega (arith, so_far, f, g, h)

-- one that is no bracket ends them, and so does the end
pub rest_end : (us : List ℕ) (i : ℕ) → length us ≤ i → drop i us ≡ without_brackets (drop i us)
rest_end [] zero le = refl
rest_end [] (suc i) le = refl
rest_end (u ∷ us) zero le = absurd (omega (arith, le))
rest_end (u ∷ us) (suc i) le = rest_end us i (omega (arith, le))

count_end : (us : List ℕ) (i : ℕ) → length us ≤ i → brackets (drop i us) ≡ 0
count_end [] zero le = refl
count_end [] (suc i) le = refl
count_end (u ∷ us) zero le = absurd (omega (arith, le))
count_end (u ∷ us) (suc i) le = count_end us i (omega (arith, le))

pub counted_all : (us : List ℕ) (n : ℕ) → length us ≤ n → brackets us ≡ n + brackets (drop n us) → n ≡ brackets us
counted_all us n le so_far = let e = count_end us n le in omega (arith, so_far, e)

no_bracket : (u : ℕ) → (u ≡ 91 → ⊥) → nat_eq u 91 ≡ false
no_bracket u e = by (nat_eq u 91) refl
  where
    by : (b : Bool) → nat_eq u 91 ≡ b → b ≡ false
    by true f = absurd (e (number_of u 91 f))
    by false f = refl

rest_ends : (us : List ℕ) (i d : ℕ) → i < length us → (get_or us i d ≡ 91 → ⊥) → drop i us ≡ without_brackets (drop i us)
rest_ends [] i d lt e = absurd (omega (arith, lt))
rest_ends (u ∷ us) zero d lt e = sym (ap (λ b. cond b (without_brackets us) (u ∷ us)) (no_bracket u e))
rest_ends (u ∷ us) (suc i) d lt e = rest_ends us i d (omega (arith, lt)) e

pub rest_here : (us : List ℕ) (n i d : ℕ) → n ≡ i → i < length us → (get_or us i d ≡ 91 → ⊥) → drop n us ≡ without_brackets (drop n us)
rest_here us n i d same lt e = subst (λ k. drop k us ≡ without_brackets (drop k us)) (sym same) (rest_ends us i d lt e)

count_ends : (us : List ℕ) (i d : ℕ) → i < length us → (get_or us i d ≡ 91 → ⊥) → brackets (drop i us) ≡ 0
count_ends [] i d lt e = absurd (omega (arith, lt))
count_ends (u ∷ us) zero d lt e = ap (λ b. cond b (suc (brackets us)) 0) (no_bracket u e)
count_ends (u ∷ us) (suc i) d lt e = count_ends us i d (omega (arith, lt)) e

pub counted_here : (us : List ℕ) (n i d : ℕ) → n ≡ i → i < length us → (get_or us i d ≡ 91 → ⊥) → brackets us ≡ n + brackets (drop n us) → n ≡ brackets us
counted_here us n i d same lt e so_far =
    let f : brackets (drop n us) ≡ brackets (drop i us) = ap (λ k. brackets (drop k us)) same in
    let g = count_ends us i d lt e in
    omega (arith, so_far, f, g)

-- ---- a text is given a number

pub given_new : (old new : Option ℕ) (b : Bool) (n : ℕ) → (b ≡ true → old ≡ None) → new ≡ cond b (Some n) old → new ≡ option_or old (cond b (Some n) None)
given_new old new true n h e = e ∙ sym (ap (λ o. option_or o (Some n)) (h refl))
given_new None new false n h e = e
given_new (Some x) new false n h e = e

pub given_old : (old : Option ℕ) (b : Bool) (n m : ℕ) → (b ≡ true → old ≡ Some m) → old ≡ option_or old (cond b (Some n) None)
given_old None true n m h = let e : None ≡ Some m = h refl in cc
given_old None false n m h = refl
given_old (Some x) b n m h = refl
