-- Digits in base 16, from the last one.
use Rattle.std.proofs.Common.{◌≡◌, ◌≢◌, ℕ, ◌-◌, ◌/◌, ◌%◌, List, [], ◌∷◌, ◌++◌, refl, sym, ap, ◌∙◌, append_assoc, append-nil, arith}
use Rattle.std.specs.Prelude.{zero, suc}
use Rattle.std.specs.Char.{digit_char}
use Rattle.text_defs.specs.Digits.{hex}

pub hex_none : (out : List ℕ) (places n : ℕ) → places ≡ 0 → out ≡ out ++ hex places n
unfolding hex
hex_none out places n e = rw e (sym (append-nil out))

last_digit : (places n : ℕ) → places ≢ 0 → hex places n ≡ hex (places - 1) (n / 16) ++ digit_char (n % 16) ∷ []
unfolding hex
last_digit zero n isnt = absurd (isnt refl)
last_digit (suc places) n isnt = let e : suc places - 1 ≡ places = omega arith in rw e refl

pub hex_more : (out new last : List ℕ) (places n d : ℕ) → places ≢ 0 → new ≡ out ++ hex (places - 1) (n / 16) → d ≡ digit_char (n % 16)
    → last ≡ new ++ d ∷ [] → last ≡ out ++ hex places n
hex_more out new last places n d isnt front digit is =
    rw (is, front, digit) (append_assoc out (hex (places - 1) (n / 16)) (digit_char (n % 16) ∷ []) ∙ ap (λ ys. out ++ ys) (sym (last_digit places n isnt)))
