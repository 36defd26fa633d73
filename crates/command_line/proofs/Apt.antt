-- Looking at the words one by one.
use Rattle.std.proofs.Common.{◌≡◌, ◌<◌, ◌≤◌, ◌+◌, ℕ, suc, Bool, true, false, List, [], ◌∷◌, ◌++◌, map, length, drop, get_or, codes, bytes_eq, refl, sym, ap, ◌∙◌, add-one, drop-cons, drop_of_length-le}
use Rattle.command_line.specs.Parsing.{are_apt, has_one_dash}

-- the word at place i, and those behind it
pub drop-word : {X : Type 0} (words : List X) (i : ℕ) (w : X) → i < length words → w ≡ get_or words i w → drop i words ≡ w ∷ drop (i + 1) words
drop-word words i w h e = rw (add-one, drop-cons words i w) (ap (λ v. v ∷ drop (suc i) words) (sym e))

module _ {X : Type 0} (text : X → List ℕ) (words : List X) (i : ℕ) (total : Bool) (w : X) (h : i < length words) (e : w ≡ get_or words i w)
    (so_far : are_apt (map text (drop i words)) ≡ total) where
  shown : are_apt (text w ∷ map text (drop (i + 1) words)) ≡ total
  shown = sym (ap (λ ws. are_apt (map text ws)) (drop-word words i w h e)) ∙ so_far

  pub apt-ends : bytes_eq (text w) (codes "--") ≡ true → true ≡ total
  apt-ends dashes = rw dashes at shown

  pub apt-fails : bytes_eq (text w) (codes "--") ≡ false → has_one_dash (text w) ≡ true → false ≡ total
  apt-fails dashes one = rw (dashes, one) at shown

  pub apt-on : bytes_eq (text w) (codes "--") ≡ false → has_one_dash (text w) ≡ false → are_apt (map text (drop (i + 1) words)) ≡ total
  apt-on dashes one = rw (dashes, one) at shown

pub apt-last : {X : Type 0} (text : X → List ℕ) (words : List X) (i : ℕ) (total : Bool) → length words ≤ i → are_apt (map text (drop i words)) ≡ total → true ≡ total
apt-last text words i total h so_far = rw (drop_of_length-le words h) at so_far
