-- Forms that do nothing but write a register (Dalvik bytecode, "Summary of bytecode set"; this project's profile).
use Rattle.std.specs.Prelude.{pos, Bool, true, false, ◌||◌, not, Some, None}
use Rattle.std.specs.Ordering.{int_eq}
use Rattle.insn_set.specs.Flow.{divides, divides_by_literal}
use Rattle.dalvik_defs.specs.Find.{finds_field}
use Rattle.dalvik_defs.specs.Initialised.{is_trivial}
use Rattle.dalvik_defs.specs.declared.names.FieldKey.{FieldKey}
use Rattle.dalvik_defs.specs.declared.forms.Form.{Form}
use Rattle.dalvik_defs.specs.declared.forms.Form.TheVariants as form
use Rattle.dalvik_defs.specs.declared.program.NamedProgram.{NamedProgram}

-- a field of a program class that is trivially initialised
abbrev pub is_quiet_field : NamedProgram → FieldKey → Bool
is_quiet_field p k = elim (finds_field p k) [ Some f ↦ is_trivial p f.0 | None ↦ false ]

-- pure whatever the registers hold; of a division by a register see `Idle`
abbrev pub is_pure : NamedProgram → Form → Bool
is_pure p form.Nop = true
is_pure p (form.Move slot to from) = true
is_pure p (form.MoveResult slot to) = true
is_pure p (form.MoveException to) = true
is_pure p (form.Const to value) = true
is_pure p (form.ConstWide to value) = true
is_pure p (form.ConstString to text) = true
is_pure p (form.ConstClass to kind) = true
is_pure p (form.InstanceOf to from kind) = true
is_pure p (form.Cmp op to a b) = true
is_pure p (form.StaticGet item to field) = is_quiet_field p field
is_pure p (form.Unary op to from) = true
is_pure p (form.Binary op to a b) = not (divides op)
is_pure p (form.Literal op to a value) = not (divides_by_literal op) || not (int_eq value (pos 0))
is_pure p f = false

-- Goto, If, IfZero and the switches
abbrev pub is_branch : Form → Bool
is_branch (form.Goto target) = true
is_branch (form.If test a b target) = true
is_branch (form.IfZero test a target) = true
is_branch (form.PackedSwitch on first targets) = true
is_branch (form.SparseSwitch on keys targets) = true
is_branch f = false
