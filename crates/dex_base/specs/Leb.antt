-- Numbers in LEB128: seven bits a byte, the lowest first. A top bit says that another byte follows.
use Rattle.std.specs.Prelude.{◌≡◌, ℕ, zero, suc, ◌+◌, ◌-◌, ◌*◌, ◌/◌, ◌%◌, ◌^◌, ◌<◌, ◌≤◌, ℤ, pos, ◌+ℤ◌, ◌-ℤ◌, ◌*ℤ◌, List, [], ◌∷◌, ◌++◌, length, take, drop, Result, Ok, Err, nat_lt, nat_le, Bool, if◌then◌else◌, ◌||◌}
use Rattle.std.specs.Int.{w32, cast_unsigned, int_wrap}
use Rattle.std.specs.List.{AllByRecursion}
use Rattle.dex_base.specs.declared.fault.BaseFault.{BaseFault}
use Rattle.dex_base.specs.declared.fault.BaseFault.TheVariants.{Short, LongLeb}
use Rattle.dex_base.specs.Reading.{◌>>=◌}

-- each byte but the last has its top bit set
abbrev pub EndsLeb : List ℕ → Type 0
EndsLeb [] = ⊥
EndsLeb (b ∷ []) = b < 128
EndsLeb (b ∷ c ∷ bs) = (128 ≤ b) × EndsLeb (c ∷ bs)

-- the bytes, all of them, are those of one number
pub record IsLeb (text : List ℕ) : Type 0 where
  pub few : length text ≤ 5
  pub ends : EndsLeb text

-- the bytes of the number at the front, which has at most so many, with the faults where there is none
abbrev pub leb_in : BaseFault → BaseFault → ℕ → List ℕ → Result (List ℕ) BaseFault
leb_in short long zero bytes = Err long
leb_in short long (suc k) [] = Err short
leb_in short long (suc k) (b ∷ bs) = if nat_lt b 128 then Ok (b ∷ []) else leb_in short long k bs >>= λ text. Ok (b ∷ text)

-- the bytes of the number at this place, which has at most five
abbrev pub leb_at : List ℕ → ℕ → Result (List ℕ) BaseFault
leb_at bytes at = leb_in (Short at) (LongLeb (at + 4)) 5 (drop at bytes)

-- the number with all its bits
abbrev pub wide : List ℕ → ℕ
wide [] = 0
wide (b ∷ bs) = b % 128 + 128 * wide bs

-- seven bits, and four, as a signed number
unfoldable pub last_seven : ℕ → ℤ
last_seven b = if nat_lt b 64 then pos b else pos b -ℤ pos 128

unfoldable pub last_four : ℕ → ℤ
last_four b = if nat_lt (b % 16) 8 then pos (b % 16) else pos (b % 16) -ℤ pos 16

-- the number with all its bits, the last byte's seven being signed
abbrev pub wide_signed : List ℕ → ℤ
wide_signed [] = pos 0
wide_signed (b ∷ []) = last_seven b
wide_signed (b ∷ c ∷ bs) = pos (b % 128) +ℤ pos 128 *ℤ wide_signed (c ∷ bs)

-- what the bytes say in 32 bits, unsigned and signed: bits past the 32nd are dropped
abbrev pub uleb_value : List ℕ → ℕ
uleb_value text = wide text % 2 ^ 32

abbrev pub sleb_value : List ℕ → ℤ
sleb_value text = int_wrap w32 (wide_signed text)

-- the number at this place, and the place behind it
unfoldable pub uleb_at : List ℕ → ℕ → Result (ℕ × ℕ) BaseFault
uleb_at bytes at = leb_at bytes at >>= λ text. Ok (uleb_value text, at + length text)

unfoldable pub sleb_at : List ℕ → ℕ → Result (ℤ × ℕ) BaseFault
sleb_at bytes at = leb_at bytes at >>= λ text. Ok (sleb_value text, at + length text)

-- the bytes, all of them, spell the number
pub record SpellsUleb (text : List ℕ) (n : ℕ) : Type 0 where
  pub is : IsLeb text
  pub value : n ≡ uleb_value text

pub record SpellsSleb (text : List ℕ) (z : ℤ) : Type 0 where
  pub is : IsLeb text
  pub value : z ≡ sleb_value text

-- the bytes at this place are those of one number
pub record IsLebAt (bytes : List ℕ) (at : ℕ) (text : List ℕ) : Type 0 where
  pub is : IsLeb text
  pub inside : at + length text ≤ length bytes
  pub here : take (length text) (drop at bytes) ≡ text

-- the bytes at this place spell the number, and it ends at that place
pub record IsUlebAt (bytes : List ℕ) (at : ℕ) (read : ℕ × ℕ) : Type 0 where
  pub text : List ℕ
  pub stands : IsLebAt bytes at text
  pub value : read.0 ≡ uleb_value text
  pub behind : read.1 ≡ at + length text

pub record IsSlebAt (bytes : List ℕ) (at : ℕ) (read : ℤ × ℕ) : Type 0 where
  pub text : List ℕ
  pub stands : IsLebAt bytes at text
  pub value : read.0 ≡ sleb_value text
  pub behind : read.1 ≡ at + length text

-- each of the bytes has its top bit set
abbrev pub GoesOn : List ℕ → Type 0
GoesOn bytes = AllByRecursion (λ b. 128 ≤ b) bytes

-- Short: the bytes end inside the number. LongLeb: its fifth byte has its top bit set.
pub data BadLeb (bytes : List ℕ) (at : ℕ) (fault : BaseFault) : Type 0 where
  Ends : length bytes < at + 5 → GoesOn (drop at bytes) → fault ≡ Short at → BadLeb bytes at fault
  Long : at + 5 ≤ length bytes → GoesOn (take 5 (drop at bytes)) → fault ≡ LongLeb (at + 4) → BadLeb bytes at fault

-- the byte with the seven bits of n from this place on, behind which another byte follows
abbrev pub more : ℕ → ℕ → ℕ
more n place = n / 2 ^ place % 128 + 128

-- the shortest spelling
unfoldable pub uleb_text : ℕ → List ℕ
uleb_text n = if nat_lt n (2 ^ 7) then n ∷ []
    else if nat_lt n (2 ^ 14) then more n 0 ∷ (n / 2 ^ 7) ∷ []
    else if nat_lt n (2 ^ 21) then more n 0 ∷ more n 7 ∷ (n / 2 ^ 14) ∷ []
    else if nat_lt n (2 ^ 28) then more n 0 ∷ more n 7 ∷ more n 14 ∷ (n / 2 ^ 21) ∷ []
    else more n 0 ∷ more n 7 ∷ more n 14 ∷ more n 21 ∷ (n / 2 ^ 28) ∷ []

-- the 32 bits are those of a signed number that is from - bound on and below bound
abbrev pub is_near : ℕ → ℕ → Bool
is_near bound bits = nat_lt bits bound || nat_le (2 ^ 32 - bound) bits

-- the shortest signed spelling of the number with these 32 bits
unfoldable pub bits_text : ℕ → List ℕ
bits_text n = if is_near (2 ^ 6) n then (n % 128) ∷ []
    else if is_near (2 ^ 13) n then more n 0 ∷ (n / 2 ^ 7 % 128) ∷ []
    else if is_near (2 ^ 20) n then more n 0 ∷ more n 7 ∷ (n / 2 ^ 14 % 128) ∷ []
    else if is_near (2 ^ 27) n then more n 0 ∷ more n 7 ∷ more n 14 ∷ (n / 2 ^ 21 % 128) ∷ []
    else more n 0 ∷ more n 7 ∷ more n 14 ∷ more n 21 ∷ (n / 2 ^ 28 + (if nat_lt n (2 ^ 31) then 0 else 112)) ∷ []

abbrev pub sleb_text : ℤ → List ℕ
sleb_text z = bits_text (cast_unsigned w32 z)
