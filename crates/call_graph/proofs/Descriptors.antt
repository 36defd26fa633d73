-- Descriptors without their leading brackets.
use Rattle.std.proofs.Common.{◌≡◌, ℕ, zero, suc, ◌+◌, ◌<◌, ◌≤◌, Bool, true, false, List, [], ◌∷◌, ◌++◌, length, take, drop, Option, Some, None, get_or, refl, sym, ap, subst, ◌∙◌, arith}
use Rattle.std.specs.Prelude.{cond, nat_eq}
use Rattle.class_defs.proofs.Positions.{number_test, number_of}
use Rattle.std.proofs.lemmas.List.{take_all}
use Rattle.call_graph.proofs.Contained.{AtPlace}
use Rattle.program_model.specs.declared.program.Class.{Class}
use Rattle.program_model.specs.declared.program.Program.{Program}
use Rattle.program_model.specs.Texts.{type_text}
use Rattle.class_defs.specs.Members.{types_are}
use Rattle.call_graph.specs.Bases.{without_brackets, same_text, last_named}

-- a unit that is a bracket is left away
one_more : (us : List ℕ) (i d : ℕ) → i < length us → get_or us i d ≡ 91 → without_brackets (drop (suc i) us) ≡ without_brackets (drop i us)
one_more [] i d lt e = absurd (omega (arith, lt))
one_more (u ∷ us) zero d lt e = sym (ap (λ b. cond b (without_brackets us) (u ∷ us)) (number_test u 91 e))
one_more (u ∷ us) (suc i) d lt e = one_more us i d (omega (arith, lt)) e

pub one_at : (us : List ℕ) (n i d : ℕ) → n ≡ i → i < length us → get_or us i d ≡ 91 → without_brackets (drop (n + 1) us) ≡ without_brackets (drop n us)
one_at us n i d same lt e = ap (λ k. without_brackets (drop k us)) (let s : n + 1 ≡ suc i = omega (arith, same) in s) ∙ one_more us i d lt e ∙ ap (λ k. without_brackets (drop k us)) (sym same)

-- one that is no bracket ends them, and so does the end
pub at_end : (us : List ℕ) (i : ℕ) → length us ≤ i → drop i us ≡ without_brackets (drop i us)
at_end [] zero le = refl
at_end [] (suc i) le = refl
at_end (u ∷ us) zero le = absurd (omega (arith, le))
at_end (u ∷ us) (suc i) le = at_end us i (omega (arith, le))

ends : (us : List ℕ) (i d : ℕ) → i < length us → (get_or us i d ≡ 91 → ⊥) → drop i us ≡ without_brackets (drop i us)
ends [] i d lt e = absurd (omega (arith, lt))
ends (u ∷ us) zero d lt e = by (nat_eq u 91) refl
  where
    by : (b : Bool) → nat_eq u 91 ≡ b → u ∷ us ≡ cond b (without_brackets us) (u ∷ us)
    by true f = absurd (e (number_of u 91 f))
    by false f = refl
ends (u ∷ us) (suc i) d lt e = ends us i d (omega (arith, lt)) e

pub no_more : (us : List ℕ) (n i d : ℕ) → n ≡ i → i < length us → (get_or us i d ≡ 91 → ⊥) → drop n us ≡ without_brackets (drop n us)
no_more us n i d same lt e = subst (λ k. drop k us ≡ without_brackets (drop k us)) (sym same) (ends us i d lt e)

-- ---- the last class of a descriptor

last_more : (p : Program) (t : List ℕ) (o : Option ℕ) (xs : List Class) (c : Class) → last_named p t o (xs ++ c ∷ []) ≡ cond (same_text (type_text p c.name) t) (Some c.name) (last_named p t o xs)
last_more p t o [] c = refl
last_more p t o (x ∷ xs) c = last_more p t (cond (same_text (type_text p x.name) t) (Some x.name) o) xs c

pub last_at : (p : Program) (t : List ℕ) (xs : List Class) (i : ℕ) (c : Class) (old new : Option ℕ) → AtPlace xs i c → old ≡ last_named p t None (take i xs)
    → new ≡ cond (same_text (type_text p c.name) t) (Some c.name) old → new ≡ last_named p t None (take (i + 1) xs)
last_at p t xs i c old new at so_far step =
    step ∙ ap (λ o. cond (same_text (type_text p c.name) t) (Some c.name) o) so_far ∙ sym (last_more p t None (take i xs) c) ∙ ap (last_named p t None) (sym at.more)

pub last_all : (p : Program) (t : List ℕ) (xs : List Class) (i : ℕ) → length xs ≤ i → last_named p t None (take i xs) ≡ last_named p t None xs
last_all p t xs i le = ap (last_named p t None) (take_all i xs le)

-- ---- parameters

pub something_taken : (p : Program) (ks : List ℕ) → 0 < length ks → false ≡ types_are p ks []
something_taken p [] lt = absurd (omega (arith, lt))
something_taken p (k ∷ ks) lt = refl
