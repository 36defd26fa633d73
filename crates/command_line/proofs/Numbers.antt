-- Reading numbers one by one.
use Rattle.std.proofs.Common.{◌≡◌, ◌<◌, ◌≤◌, ◌+◌, ℕ, List, [], ◌∷◌, ◌++◌, length, drop, get_or, Option, Some, None, option_map, option_and_then, refl, sym, ap, ◌∙◌, append-nil, append_assoc, drop_of_length-le}
use Rattle.command_line.specs.Reading.{number_of, numbers_of, small}
use Rattle.command_line.proofs.Apt.{drop-word}

module _ (texts : List (List ℕ)) (i : ℕ) (front : List ℕ) (total : Option (List ℕ)) (w : List ℕ) (h : i < length texts) (e : w ≡ get_or texts i w)
    (so_far : option_map (λ ns. front ++ ns) (numbers_of (drop i texts)) ≡ total) where
  shown : option_map (λ ns. front ++ ns) (numbers_of (w ∷ drop (i + 1) texts)) ≡ total
  shown = sym (ap (λ ws. option_map (λ ns. front ++ ns) (numbers_of ws)) (drop-word texts i w h e)) ∙ so_far

  pub numbers-fail : option_and_then small (number_of w) ≡ None → None ≡ total
  numbers-fail none = rw none at shown

  pub numbers-on : (n : ℕ) (grown : List ℕ) → option_and_then small (number_of w) ≡ Some n → grown ≡ front ++ n ∷ []
      → option_map (λ ns. grown ++ ns) (numbers_of (drop (i + 1) texts)) ≡ total
  numbers-on n grown some is = rw is (by_rest (numbers_of (drop (i + 1) texts)) (rw some at shown))
    where
      by_rest : (o : Option (List ℕ)) → option_map (λ ns. front ++ ns) (option_map (λ ns. n ∷ ns) o) ≡ total → option_map (λ ns. (front ++ n ∷ []) ++ ns) o ≡ total
      by_rest None k = k
      by_rest (Some ns) k = ap Some (append_assoc front (n ∷ []) ns) ∙ k

pub numbers-last : (texts : List (List ℕ)) (i : ℕ) (front : List ℕ) (total : Option (List ℕ)) → length texts ≤ i
    → option_map (λ ns. front ++ ns) (numbers_of (drop i texts)) ≡ total → Some front ≡ total
numbers-last texts i front total h so_far = let k : Some (front ++ []) ≡ total = rw (drop_of_length-le texts h) at so_far in ap Some (sym (append-nil front)) ∙ k
