-- The places of fields, class by class.
use Rattle.std.proofs.Common.{◌≡◌, ℕ, ◌+◌, ◌<◌, ◌≤◌, zero, suc, List, [], ◌∷◌, ◌++◌, length, take, get_or, refl, ap, sym, subst, ◌∙◌, arith}
use Rattle.std.proofs.lemmas.List.{take_more}
use Rattle.program_model.specs.declared.program.Class.{Class}
use Rattle.dalvik_lookups.specs.Slots.{places_on, slots_from, slots_after}

from_snoc : (n : ℕ) (cs : List Class) (c : Class) → slots_from n (cs ++ c ∷ []) ≡ slots_from n cs ++ slots_after n cs ∷ []
from_snoc n [] c = refl
from_snoc n (d ∷ cs) c = ap (λ v. n ∷ v) (from_snoc (places_on n (length d.fields)) cs c)

after_snoc : (n : ℕ) (cs : List Class) (c : Class) → slots_after n (cs ++ c ∷ []) ≡ places_on (slots_after n cs) (length c.fields)
after_snoc n [] c = refl
after_snoc n (d ∷ cs) c = after_snoc (places_on n (length d.fields)) cs c

-- one class more
pub one_more : (xs cs : List Class) (i : ℕ) (c : Class) → xs ≡ cs → i < length xs → c ≡ get_or xs i c → take (i + 1) cs ≡ take i cs ++ c ∷ []
one_more xs cs i c e h is = subst (λ v. take (i + 1) v ≡ take i v ++ c ∷ []) e (take_more xs i c h ∙ ap (λ y. take i xs ++ y ∷ []) (sym is))

pub from_more : (cs more_cs : List Class) (c : Class) (slots more : List ℕ) (next : ℕ) → more_cs ≡ cs ++ c ∷ [] → slots ≡ slots_from 0 cs → next ≡ slots_after 0 cs → more ≡ slots ++ next ∷ [] → more ≡ slots_from 0 more_cs
from_more cs more_cs c slots more next s e f g = g ∙ ap (λ v. v ++ next ∷ []) e ∙ ap (λ v. slots_from 0 cs ++ v ∷ []) f ∙ sym (from_snoc 0 cs c) ∙ ap (slots_from 0) (sym s)

pub after_more : (cs more_cs : List Class) (c : Class) (next more count : ℕ) → more_cs ≡ cs ++ c ∷ [] → next ≡ slots_after 0 cs → count ≡ length c.fields → more ≡ places_on next count → more ≡ slots_after 0 more_cs
after_more cs more_cs c next more count s f l g = g ∙ ap (places_on next) l ∙ ap (λ n. places_on n (length c.fields)) f ∙ sym (after_snoc 0 cs c) ∙ ap (slots_after 0) (sym s)

all : (cs : List Class) (i : ℕ) → length cs ≤ i → take i cs ≡ cs
all [] zero h = refl
all [] (suc i) h = refl
all (c ∷ cs) zero h = absurd (omega (arith, h))
all (c ∷ cs) (suc i) h = ap (λ v. c ∷ v) (all cs i (omega (arith, h)))

pub from_all : (xs cs : List Class) (i : ℕ) (slots : List ℕ) → xs ≡ cs → length xs ≤ i → slots ≡ slots_from 0 (take i cs) → slots ≡ slots_from 0 cs
from_all xs cs i slots s h e = e ∙ ap (slots_from 0) (subst (λ v. take i v ≡ v) s (all xs i h))

pub after_all : (xs cs : List Class) (i next : ℕ) → xs ≡ cs → length xs ≤ i → next ≡ slots_after 0 (take i cs) → next ≡ slots_after 0 cs
after_all xs cs i next s h e = e ∙ ap (slots_after 0) (subst (λ v. take i v ≡ v) s (all xs i h))
