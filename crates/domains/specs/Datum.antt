-- What a register can hold.
use Rattle.std.specs.Prelude.{ℕ, Bool, false, ◌==◌, Option}

-- a number: a word of 32 bits, or a wide number of 64 bits, both read without a sign
pub data Number : Type 0 where
  Single : ℕ → Number
  Double : ℕ → Number

-- a number, null being the word 0, or a reference to an object of a class of the program, by its place there, or of no class of it
pub data Datum : Type 0 where
  Plain : Number → Datum
  Object : Option ℕ → Datum

-- whether it is the word 0
abbrev pub is_zero : Datum → Bool
is_zero (Plain (Single w)) = w == 0
is_zero (Plain (Double d)) = false
is_zero (Object class) = false

-- y holds of all that x holds of
abbrev pub Within : {V M : Type 0} → (V → M → Type 0) → V → V → Type 0
Within {V} {M} holds x y = (m : M) → holds x m → holds y m
