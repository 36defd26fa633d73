-- The values of registers. A register without a value is one of nothing.
use Rattle.std.specs.Prelude.{ℕ, zero, suc, ◌+◌, Bool, true, false, if◌then◌else◌, Option, Some, None}
use Rattle.std.specs.Option.{option_map, unwrap_or}
use Rattle.std.specs.FinMap as finite
use Rattle.insn_set.specs.declared.ops.Slot.{Slot}
use Rattle.insn_set.specs.declared.ops.Slot.TheVariants as slot
use Rattle.domains.specs.Values.{Parts, least_value, any_value}
use Rattle.pat_map.specs.Trees.{WordMap}

abbrev pub Registers : Type 0
Registers = WordMap Parts

abbrev pub value_at : Registers → ℕ → Parts
value_at x r = unwrap_or (finite.get x r) least_value

-- the same value in each of the first registers
abbrev pub filled : ℕ → Parts → Registers
filled zero v = finite.empty
filled (suc n) v = finite.insert (filled n v) n v

abbrev pub put : ℕ → Parts → Registers → Registers
put to v x = finite.insert x to v

-- the low register of a wide stands for it, and of the high one nothing is known
abbrev pub put_wide : ℕ → Parts → Registers → Registers
put_wide to v x = put (to + 1) any_value (put to v x)

abbrev pub put_sized : Bool → ℕ → Parts → Registers → Registers
put_sized wide to v x = if wide then put_wide to v x else put to v x

abbrev pub moved : Slot → ℕ → ℕ → Registers → Registers
moved slot.Wide to from x = put (to + 1) (value_at x (from + 1)) (put to (value_at x from) x)
moved s to from x = put to (value_at x from) x

-- a register with what an operation answers for it, where it answers
abbrev pub refined : ℕ → Option Parts → Registers → Option Registers
refined r o x = option_map (λ v. put r v x) o

abbrev pub refined_both : ℕ → ℕ → Option (Parts × Parts) → Registers → Option Registers
refined_both r s o x = option_map (λ v. put s v.1 (put r v.0 x)) o

-- and then a register that is written
abbrev pub then_put : Bool → ℕ → Parts → Option Registers → Option Registers
then_put wide to v o = option_map (put_sized wide to v) o
