-- Telling word by word.
use Rattle.std.proofs.Common.{◌≡◌, ◌<◌, ◌≤◌, ◌+◌, ℕ, Bool, true, false, List, [], ◌∷◌, ◌++◌, map, length, drop, get_or, codes, bytes_eq, refl, sym, ap, ◌∙◌, append-nil, append_assoc, drop_of_length-le}
use Rattle.command_line.specs.declared.command.Tell.{Tell}
use Rattle.command_line.specs.Parsing.{names, rest_of, tell_numbers, tell_spares, tells_in}
use Rattle.command_line.proofs.Apt.{drop-word}

module _ {X : Type 0} (text : X → List ℕ) (words : List X) (i : ℕ) (front : List Tell) (ss : List (List ℕ)) (ns : List ℕ) (total : List Tell) (w : X) (h : i < length words) (e : w ≡ get_or words i w)
    (so_far : front ++ tells_in (map text (drop i words)) ss ns ≡ total) where
  shown : front ++ tells_in (text w ∷ map text (drop (i + 1) words)) ss ns ≡ total
  shown = sym (ap (λ ws. front ++ tells_in (map text ws) ss ns) (drop-word words i w h e)) ∙ so_far

  pub order-ends : bytes_eq (text w) (codes "--") ≡ true → front ≡ total
  order-ends dashes = let k : front ++ [] ≡ total = rw dashes at shown in sym (append-nil front) ∙ k

  pub order-spare : (grown : List Tell) (more : List (List ℕ)) → bytes_eq (text w) (codes "--") ≡ false → names (codes "--spare") (text w) ≡ true
      → grown ≡ front ++ tell_spares ss → more ≡ rest_of ss → grown ++ tells_in (map text (drop (i + 1) words)) more ns ≡ total
  order-spare grown more dashes spare is left =
      let k : front ++ (tell_spares ss ++ tells_in (map text (drop (i + 1) words)) (rest_of ss) ns) ≡ total = rw (dashes, spare) at shown in
      rw (is, left) (append_assoc front (tell_spares ss) (tells_in (map text (drop (i + 1) words)) (rest_of ss) ns) ∙ k)

  pub order-number : (grown : List Tell) (more : List ℕ) → bytes_eq (text w) (codes "--") ≡ false → names (codes "--spare") (text w) ≡ false → names (codes "--at-most") (text w) ≡ true
      → grown ≡ front ++ tell_numbers ns → more ≡ rest_of ns → grown ++ tells_in (map text (drop (i + 1) words)) ss more ≡ total
  order-number grown more dashes spare at_most is left =
      let k : front ++ (tell_numbers ns ++ tells_in (map text (drop (i + 1) words)) ss (rest_of ns)) ≡ total = rw (dashes, spare, at_most) at shown in
      rw (is, left) (append_assoc front (tell_numbers ns) (tells_in (map text (drop (i + 1) words)) ss (rest_of ns)) ∙ k)

  pub order-on : bytes_eq (text w) (codes "--") ≡ false → names (codes "--spare") (text w) ≡ false → names (codes "--at-most") (text w) ≡ false
      → front ++ tells_in (map text (drop (i + 1) words)) ss ns ≡ total
  order-on dashes spare at_most = rw (dashes, spare, at_most) at shown

pub order-last : {X : Type 0} (text : X → List ℕ) (words : List X) (i : ℕ) (front : List Tell) (ss : List (List ℕ)) (ns : List ℕ) (total : List Tell) → length words ≤ i
    → front ++ tells_in (map text (drop i words)) ss ns ≡ total → front ≡ total
order-last text words i front ss ns total h so_far = let k : front ++ [] ≡ total = rw (drop_of_length-le words h) at so_far in sym (append-nil front) ∙ k
