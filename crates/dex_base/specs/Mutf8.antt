-- Texts in modified UTF-8: each UTF-16 unit by itself in one to three bytes, and a zero byte behind the last.
use Rattle.std.specs.Prelude.{◌≡◌, ℕ, zero, suc, ◌+◌, ◌-◌, ◌*◌, ◌/◌, ◌%◌, ◌^◌, ◌<◌, ◌≤◌, ◌&&◌, ◌==◌, List, [], ◌∷◌, ◌++◌, length, take, drop, slice_index, Bool, Result, Ok, Err, nat_lt, nat_le, if◌then◌else◌}
use Rattle.std.specs.List.{AllByRecursion, flat_map}
use Rattle.dex_base.specs.declared.fault.BaseFault.{BaseFault}
use Rattle.dex_base.specs.declared.fault.BaseFault.TheVariants.{NoMemory, Short, LongLeb, BadText, BadDescriptor}
use Rattle.dex_base.specs.Reading.{◌>>=◌}

-- the spelling of a unit: one byte for 1 to 127, two for 0 and up to 2047, three for the others
unfoldable pub unit_bytes : ℕ → List ℕ
unit_bytes u = if nat_lt 0 u && nat_lt u 128 then u ∷ []
    else if nat_lt u 2048 then (192 + u / 64) ∷ (128 + u % 64) ∷ []
    else (224 + u / 4096) ∷ (128 + u / 64 % 64) ∷ (128 + u % 64) ∷ []

-- the spelling of a text
unfoldable pub text_bytes : List ℕ → List ℕ
text_bytes units = flat_map unit_bytes units ++ 0 ∷ []

-- the low six bits of the byte at the front, which has this place in a text from begin on, and has to be from low to high
abbrev pub six_bits_in : ℕ → ℕ → ℕ → ℕ → List ℕ → Result ℕ BaseFault
six_bits_in begin place low high [] = Err (Short begin)
six_bits_in begin place low high (b ∷ bs) = if nat_le low b && nat_le b high then Ok (b - 128) else Err (BadText place)

-- a unit of two bytes, the second from 128 to high, and of three, the second from low to 191
abbrev pub double_in : ℕ → ℕ → ℕ → List ℕ → Result (ℕ × ℕ) BaseFault
double_in begin place high bytes = six_bits_in begin (place + 1) 128 high (drop 1 bytes) >>= λ b. Ok ((slice_index bytes 0 - 192) * 64 + b, 2)

abbrev pub triple_in : ℕ → ℕ → ℕ → List ℕ → Result (ℕ × ℕ) BaseFault
triple_in begin place low bytes =
    six_bits_in begin (place + 1) low 191 (drop 1 bytes) >>= λ b. six_bits_in begin (place + 2) 128 191 (drop 2 bytes) >>= λ c. Ok ((slice_index bytes 0 - 224) * 4096 + b * 64 + c, 3)

-- the unit at the front of the bytes, by the first byte, which has this place in a text from begin on; how many bytes it takes
unfoldable pub unit_in : ℕ → ℕ → List ℕ → Result (ℕ × ℕ) BaseFault
unit_in begin place [] = Err (Short begin)
unit_in begin place (a ∷ bs) =
    if nat_lt 0 a && nat_lt a 128 then Ok (a, 1)
    else if a == 192 then double_in begin place 128 (a ∷ bs)
    else if nat_le 194 a && nat_lt a 224 then double_in begin place 191 (a ∷ bs)
    else if a == 224 then triple_in begin place 160 (a ∷ bs)
    else if nat_le 225 a && nat_lt a 240 then triple_in begin place 128 (a ∷ bs)
    else Err (BadText place)

-- so many units and the zero byte, and the place behind it
abbrev pub text_in : ℕ → ℕ → ℕ → List ℕ → Result (List ℕ × ℕ) BaseFault
text_in begin place zero [] = Err (Short begin)
text_in begin place zero (b ∷ bs) = if b == 0 then Ok ([], place + 1) else Err (BadText place)
text_in begin place (suc k) bytes = unit_in begin place bytes >>= λ u. text_in begin (place + u.1) k (drop u.1 bytes) >>= λ t. Ok (u.0 ∷ t.0, t.1)

-- the text of so many units at this place, and the place behind its zero byte
unfoldable pub text_at : List ℕ → ℕ → ℕ → Result (List ℕ × ℕ) BaseFault
text_at bytes at units = text_in at at units (drop at bytes)

-- so many UTF-16 units
pub record AreUnits (count : ℕ) (units : List ℕ) : Type 0 where
  pub counted : length units ≡ count
  pub fit : AllByRecursion (λ u. u < 2 ^ 16) units

-- the bytes at this place spell the text of so many units, and it ends at that place
pub record IsTextAt (bytes : List ℕ) (at count : ℕ) (read : List ℕ × ℕ) : Type 0 where
  pub are : AreUnits count read.0
  pub inside : at + length (text_bytes read.0) ≤ length bytes
  pub here : take (length (text_bytes read.0)) (drop at bytes) ≡ text_bytes read.0
  pub behind : read.1 ≡ at + length (text_bytes read.0)

-- the bytes are the front of a text's of so many units, which has more
pub record BeginsText (count : ℕ) (bytes : List ℕ) : Type 0 where
  pub units : List ℕ
  pub rest : List ℕ
  pub are : AreUnits count units
  pub more : 0 < length rest
  pub begins : text_bytes units ≡ bytes ++ rest

-- no text of so many units begins like this
abbrev pub NoTextBegins : ℕ → List ℕ → Type 0
NoTextBegins count bytes = (units rest : List ℕ) → AreUnits count units → text_bytes units ≡ bytes ++ rest → ⊥

-- Short: the bytes end inside a text. BadText: up to that byte they begin a text, and with it they don't.
pub data BadTextAt (bytes : List ℕ) (at count : ℕ) (fault : BaseFault) : Type 0 where
  Ends : BeginsText count (drop at bytes) → fault ≡ Short at → BadTextAt bytes at count fault
  Wrong : (behind : ℕ) → at + behind < length bytes → BeginsText count (take behind (drop at bytes)) → NoTextBegins count (take (suc behind) (drop at bytes)) → fault ≡ BadText (at + behind) → BadTextAt bytes at count fault
