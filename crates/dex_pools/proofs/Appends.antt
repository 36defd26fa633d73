-- Texts put behind one another.
use Rattle.std.proofs.Common.{◌≡◌, ℕ, ◌≤◌, List, ◌++◌, length, take, Result, Ok, Err, refl, sym, ap, ◌∙◌, append_assoc, arith}
use Rattle.std.proofs.lemmas.List.{length-take, take-take, take_at}
use Rattle.std.specs.Prelude.{OnOk}
use Rattle.std.specs.declared.alloc.AllocError.{AllocError}

-- one text, and behind it another
pub ok_then : (r : Result (Unit {0}) AllocError) (old mid new a b text : List ℕ) → mid ≡ old ++ a → text ≡ a ++ b → OnOk r (new ≡ mid ++ b) → OnOk r (new ≡ old ++ text)
ok_then (Ok u) old mid new a b text e f h = rw f (h ∙ ap (λ (xs : List ℕ). xs ++ b) e ∙ append_assoc old a b)
ok_then (Err u) old mid new a b text e f h = tt

-- what begins with a text that begins with another begins with this one
pub front_then : (old mid new : List ℕ) → take (length mid) new ≡ mid → take (length old) mid ≡ old → take (length old) new ≡ old
front_then old mid new h g =
    let le : length old ≤ length mid = omega (arith, ap (λ (xs : List ℕ). length xs) g, length-take (length old) mid) in
    sym (take-take (length old) (length mid) new le) ∙ ap (λ (xs : List ℕ). take (length old) xs) h ∙ g

-- what is a text and another begins with it
pub front_one : (old mid a : List ℕ) → mid ≡ old ++ a → take (length old) mid ≡ old
front_one old mid a e = rw e (take_at old a (length old) refl)
