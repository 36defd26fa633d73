-- The moves of a script, by their words (this project's profile).
use Rattle.std.specs.Prelude.{ℕ, List, [], ◌∷◌, Option, Some, None, codes, option_map, option_and_then, if◌then◌else◌}
use Rattle.dalvik_defs.specs.Names.{text_eq}
use Rattle.dalvik_defs.specs.declared.script.Given.{Given}
use Rattle.dalvik_defs.specs.declared.script.Move.{Move}
use Rattle.dalvik_defs.specs.declared.script.Move.TheVariants as move
use Rattle.text_defs.specs.Digits.{place_of}
use Rattle.text_defs.specs.Escapes.{name_of}
use Rattle.text_defs.specs.Words.{all_of, one_of, two_of, three_of, front_of}
use Rattle.text_defs.specs.Values.{given_of, perhaps_given, proto_of}

-- CLASS NAME PROTO V..
abbrev pub enter_of : List (List ℕ) → Option Move
enter_of words = option_and_then (λ ws.
    option_and_then (λ c. option_and_then (λ n. option_and_then (λ p. option_map (move.Enter c n p) (all_of given_of ws.3))
    (proto_of ws.2)) (name_of ws.1)) (name_of ws.0)) (front_of words)

-- CLASS
abbrev pub make_of : List (List ℕ) → Option Move
make_of words = option_and_then (λ class. option_map move.Make (name_of class)) (one_of words)

-- V
abbrev pub throw_of : List (List ℕ) → Option Move
throw_of words = option_and_then (λ value. option_map move.Throw (given_of value)) (one_of words)

-- CLASS NAME TYPE [V]
abbrev pub get_of : List (List ℕ) → Option Move
get_of words = option_and_then (λ ws.
    option_and_then (λ c. option_and_then (λ n. option_and_then (λ k. option_map (move.Get c n k) (perhaps_given ws.3))
    (name_of ws.2)) (name_of ws.1)) (name_of ws.0)) (front_of words)

-- [V] V: the object, unless the field is static, and the value
abbrev pub stored_in : Option (List ℕ) → Option (List ℕ × List ℕ) → Option (Option Given × Given)
stored_in (Some value) both = option_map (λ v. (None, v)) (given_of value)
stored_in None both = option_and_then (λ ws. option_and_then (λ o. option_map (λ v. (Some o, v)) (given_of ws.1)) (given_of ws.0)) both

abbrev pub stored_of : List (List ℕ) → Option (Option Given × Given)
stored_of words = stored_in (one_of words) (two_of words)

-- CLASS NAME TYPE [V] V
abbrev pub put_of : List (List ℕ) → Option Move
put_of words = option_and_then (λ ws.
    option_and_then (λ c. option_and_then (λ n. option_and_then (λ k. option_map (λ s. move.Put c n k s.0 s.1) (stored_of ws.3))
    (name_of ws.2)) (name_of ws.1)) (name_of ws.0)) (front_of words)

-- V N
abbrev pub array_get_of : List (List ℕ) → Option Move
array_get_of words = option_and_then (λ ws. option_and_then (λ o. option_map (move.ArrayGet o) (place_of ws.1)) (given_of ws.0)) (two_of words)

-- V N V
abbrev pub array_put_of : List (List ℕ) → Option Move
array_put_of words = option_and_then (λ ws.
    option_and_then (λ o. option_and_then (λ n. option_map (move.ArrayPut o n) (given_of ws.2)) (place_of ws.1)) (given_of ws.0)) (three_of words)

-- V
abbrev pub array_length_of : List (List ℕ) → Option Move
array_length_of words = option_and_then (λ on. option_map move.ArrayLength (given_of on)) (one_of words)

-- a move's name and the words behind it
abbrev pub move_of : List ℕ → List (List ℕ) → Option Move
move_of name words = if text_eq name (codes "enter") then enter_of words
    else if text_eq name (codes "make") then make_of words
    else if text_eq name (codes "return") then option_map move.Return (perhaps_given words)
    else if text_eq name (codes "throw") then throw_of words
    else if text_eq name (codes "get") then get_of words
    else if text_eq name (codes "put") then put_of words
    else if text_eq name (codes "aget") then array_get_of words
    else if text_eq name (codes "aput") then array_put_of words
    else if text_eq name (codes "alen") then array_length_of words
    else None
