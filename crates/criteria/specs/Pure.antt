-- Forms that do nothing but write a register, by number (Dalvik bytecode, "Summary of bytecode set"; this project's profile).
use Rattle.std.specs.Prelude.{ℕ, Bool, true, false, ◌||◌, not, nat_eq}
use Rattle.std.specs.Int.{w32, cast_unsigned}
use Rattle.insn_set.specs.Flow.{divides, divides_by_literal}
use Rattle.insn_set.specs.declared.form.Insn.{Insn}
use Rattle.insn_set.specs.declared.form.Insn.TheVariants as insn

-- pure whatever the registers hold, where gets of these static fields are
abbrev pub is_pure : (ℕ → Bool) → Insn → Bool
is_pure quiet insn.Nop = true
is_pure quiet (insn.Move slot to from) = true
is_pure quiet (insn.MoveResult slot to) = true
is_pure quiet (insn.MoveException to) = true
is_pure quiet (insn.Const to value) = true
is_pure quiet (insn.ConstWide to value) = true
is_pure quiet (insn.ConstString to string) = true
is_pure quiet (insn.ConstClass to kind) = true
is_pure quiet (insn.InstanceOf to from kind) = true
is_pure quiet (insn.Cmp op to a b) = true
is_pure quiet (insn.StaticGet item to field) = quiet field
is_pure quiet (insn.Unary op to from) = true
is_pure quiet (insn.Binary op to a b) = not (divides op)
is_pure quiet (insn.Literal op to a value) = not (divides_by_literal op) || not (nat_eq (cast_unsigned w32 value) 0)
is_pure quiet i = false
