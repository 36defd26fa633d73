-- What follows a front.
use Rattle.std.proofs.Common.{◌≡◌, ◌==◌, ◌⊎◌, inl, inr, ℕ, Bool, true, false, cond, List, [], ◌∷◌, ◌++◌, Option, Some, None, option_map, MatchOption, Bor, refl, sym, ap, ◌∙◌, eq-eqb, eqb-true}
use Rattle.std.specs.Str.Pattern.{FindsTextPrefix, StripsPrefix}
use Rattle.command_line.specs.Parsing.{after_front}

pub after_front-append : (front rest : List ℕ) → after_front front (front ++ rest) ≡ Some rest
after_front-append [] rest = refl
after_front-append (x ∷ front) rest = rw (eq-eqb x x refl) (after_front-append front rest)

split : (x y : ℕ) (front word rest : List ℕ) (b : Bool) → (x == y) ≡ b → (after_front front word ≡ Some rest → word ≡ front ++ rest)
    → cond b (after_front front word) None ≡ Some rest → y ∷ word ≡ x ∷ (front ++ rest)
split x y front word rest true e more k = let w : word ≡ front ++ rest = more k in let f : x ≡ y = eqb-true x y e in cc
split x y front word rest false e more k = cc

pub after_front-is : (front word rest : List ℕ) → after_front front word ≡ Some rest → word ≡ front ++ rest
after_front-is [] word rest h = cc
after_front-is (x ∷ front) [] rest h = cc
after_front-is (x ∷ front) (y ∷ word) rest h = split x y front word rest (x == y) refl (after_front-is front word rest) h

some_or_none : (o : Option (List ℕ)) → ((x : List ℕ) × (o ≡ Some x)) ⊎ (o ≡ None)
some_or_none (Some x) = inl (x, refl)
some_or_none None = inr refl

-- the clause of `strip_prefix` at a text
pub strip_prefix-is : (front word : List ℕ) (r : Option (Bor (List ℕ)))
    → MatchOption r (FindsTextPrefix front word None) (λ x. StripsPrefix (FindsTextPrefix front) word x.now)
    → option_map (λ rest. rest.now) r ≡ after_front front word
strip_prefix-is front word None h = elim (some_or_none (after_front front word)) [
  | inl found ↦ absurd (h found.0 (after_front-is front word found.0 found.1))
  | inr none ↦ sym none
]
strip_prefix-is front word (Some x) h =
    let split : word ≡ front ++ x.now = rw h.2 h.1.1 in
    sym (ap (after_front front) split ∙ after_front-append front x.now)
