-- One more item of a list, whose names or facts are added.
use Rattle.std.proofs.Common.{◌≡◌, ℕ, ◌+◌, ◌<◌, List, [], ◌∷◌, ◌++◌, length, take, get_or, sym, ap, ◌∙◌}
use Rattle.std.proofs.lemmas.List.{take_more, append-nil, append_assoc}
use Rattle.std.proofs.lemmas.List.Concat.{flat_map-append}
use Rattle.std.specs.List.{flat_map}

pub adds_on : {X Y : Type 0} (f : X → List Y) (first before behind : List Y) (xs : List X) (i : ℕ) (x : X) → before ≡ first ++ flat_map f (take i xs) → i < length xs → x ≡ get_or xs i x
    → behind ≡ before ++ f x → behind ≡ first ++ flat_map f (take (i + 1) xs)
adds_on f first before behind xs i x so_far lt is step =
    let more : take (i + 1) xs ≡ take i xs ++ x ∷ [] = take_more xs i x lt ∙ ap (λ (y : _). take i xs ++ y ∷ []) (sym is) in
    let text : flat_map f (take (i + 1) xs) ≡ flat_map f (take i xs) ++ f x = rw (more, flat_map-append) (ap (λ (ys : _). flat_map f (take i xs) ++ ys) (append-nil (f x))) in
    step ∙ rw (so_far, text) (append_assoc first (flat_map f (take i xs)) (f x))

pub adds_at : {X Y : Type 0} (f : X → List Y) (first before behind : List Y) (xs : List X) (i : ℕ) (d : X) → before ≡ first ++ flat_map f (take i xs) → i < length xs
    → behind ≡ before ++ f (get_or xs i d) → behind ≡ first ++ flat_map f (take (i + 1) xs)
adds_at f first before behind xs i d so_far lt step =
    let more : take (i + 1) xs ≡ take i xs ++ get_or xs i d ∷ [] = take_more xs i d lt in
    let text : flat_map f (take (i + 1) xs) ≡ flat_map f (take i xs) ++ f (get_or xs i d) = rw (more, flat_map-append) (ap (λ (ys : _). flat_map f (take i xs) ++ ys) (append-nil (f (get_or xs i d)))) in
    step ∙ rw (so_far, text) (append_assoc first (flat_map f (take i xs)) (f (get_or xs i d)))
