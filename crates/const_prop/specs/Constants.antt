-- Constants in place of forms that do nothing but write a register (Dalvik bytecode, "Summary of bytecode set").
use Rattle.std.specs.Prelude.{◌≡◌, ℕ, ◌≤◌, pos, Bool, true, false, ◌&&◌, nat_le, Option, Some, None}
use Rattle.std.specs.Int.{w32, w64, cast_signed, cast_unsigned}
use Rattle.insn_set.specs.Registers.{writes_of}
use Rattle.insn_set.specs.Spelling.{units_of, is_encodable}
use Rattle.insn_set.specs.Widths.{is_wide_slot, is_wide_item, unary_writes_wide, binary_is_wide}
use Rattle.insn_set.specs.declared.form.Insn.{Insn}
use Rattle.insn_set.specs.declared.form.Insn.TheVariants as insn
use Rattle.const_prop.specs.declared.numbers.Number.{Number}
use Rattle.const_prop.specs.declared.numbers.Number.TheVariants.{Word, Wide}

-- the register of a result, and whether the next one is written too
abbrev pub result_of : Insn → Option (ℕ × Bool)
result_of (insn.Move slot to from) = Some (to, is_wide_slot slot)
result_of (insn.MoveResult slot to) = Some (to, is_wide_slot slot)
result_of (insn.MoveException to) = Some (to, false)
result_of (insn.ConstString to string) = Some (to, false)
result_of (insn.ConstClass to kind) = Some (to, false)
result_of (insn.InstanceOf to from kind) = Some (to, false)
result_of (insn.Cmp op to a b) = Some (to, false)
result_of (insn.StaticGet item to field) = Some (to, is_wide_item item)
result_of (insn.Unary op to from) = Some (to, unary_writes_wide op)
result_of (insn.Binary op to a b) = Some (to, binary_is_wide op)
result_of (insn.Literal op to a value) = Some (to, false)
result_of f = None

-- a word into a register, a wide number into a pair
abbrev pub number_into : ℕ → Bool → Number → Option Insn
number_into to false (Word n) = Some (insn.Const to (cast_signed w32 n))
number_into to true (Wide n) = Some (insn.ConstWide to (cast_signed w64 n))
number_into to wide n = None

-- whether a constant is encodable, and no longer than a form
abbrev pub is_worth : Insn → Insn → Bool
is_worth f g = is_encodable g && nat_le (units_of g (pos 0)) (units_of f (pos 0))

abbrev pub worth : Insn → Option Insn → Option Insn
worth f None = None
worth f (Some g) = elim (is_worth f g) [ true ↦ Some g | false ↦ None ]

abbrev pub constant_into : Insn → Number → Option (ℕ × Bool) → Option Insn
constant_into f n None = None
constant_into f n (Some r) = worth f (number_into r.0 r.1 n)

-- the constant of a number in place of a form
abbrev pub constant_for : Insn → Number → Option Insn
constant_for f n = constant_into f n (result_of f)

abbrev pub is_constant : Insn → Bool
is_constant (insn.Const to value) = true
is_constant (insn.ConstWide to value) = true
is_constant f = false

abbrev pub is_result : Option (ℕ × Bool) → Bool
is_result None = false
is_result (Some r) = true

-- the number that a constant puts into registers
abbrev pub number_written : Insn → Option Number
number_written (insn.Const to value) = Some (Word (cast_unsigned w32 value))
number_written (insn.ConstWide to value) = Some (Wide (cast_unsigned w64 value))
number_written f = None

-- the register of a constant, and whether the next one is written too
abbrev pub constant_result : Insn → Option (ℕ × Bool)
constant_result (insn.Const to value) = Some (to, false)
constant_result (insn.ConstWide to value) = Some (to, true)
constant_result f = None

-- A constant in place of a form that only writes a register: it writes just the registers that the form writes, is
-- encodable, and is no longer.
pub record IsConstantFor (f g : Insn) : Type 0 where
  pub constant : is_constant g ≡ true
  pub plain : is_result (result_of f) ≡ true
  pub result : constant_result g ≡ result_of f
  pub same : (r : ℕ) → writes_of g r ≡ writes_of f r
  pub encodable : is_encodable g ≡ true
  pub short : units_of g (pos 0) ≤ units_of f (pos 0)
