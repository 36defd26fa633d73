-- What follows a front.
use Rattle.std.proofs.Common.{◌≡◌, ℕ, ◌+◌, ◌&&◌, Bool, true, false, cond, List, [], ◌∷◌, take, drop, length, Option, Some, None, option_map, MatchOption, Bor, nat_eq, refl, ap}
use Rattle.std.specs.Cmp.Lexicographic.{pointwise}
use Rattle.text_defs.specs.Words.{behind}

first_same : (front word : List ℕ) (b : Bool) → behind front word ≡ cond (pointwise nat_eq (take (length front) word) front) (Some (drop (length front) word)) None
    → cond b (behind front word) None ≡ cond (b && pointwise nat_eq (take (length front) word) front) (Some (drop (length front) word)) None
first_same front word true more = more
first_same front word false more = refl

cut : (front word : List ℕ) → behind front word ≡ cond (pointwise nat_eq (take (length front) word) front) (Some (drop (length front) word)) None
cut [] word = refl
cut (x ∷ front) [] = refl
cut (x ∷ front) (c ∷ word) = first_same front word (nat_eq c x) (cut front word)

-- the clause of `strip_prefix`
pub strip_prefix-is : (front word : List ℕ) (r : Option (Bor (List ℕ)))
    → MatchOption r (pointwise nat_eq (take (length front) word) front ≡ false)
    (λ x. (pointwise nat_eq (take (length front) word) front ≡ true) × (x.now ≡ drop (length front) word) × (length x.now + length front ≡ length word))
    → option_map (λ rest. rest.now) r ≡ behind front word
strip_prefix-is front word None h = rw (cut front word) (rw h refl)
strip_prefix-is front word (Some x) h = rw (cut front word) (rw h.0 (ap Some h.1))
