-- What of an instruction matters for the layout.
use Rattle.std.specs.Prelude.{ℕ, ◌≤◌, List, pos, slice_index_or}
use Rattle.insn_set.specs.Spelling.{shortest_string, units_of}
use Rattle.insn_set.specs.Formats.{format_units}
use Rattle.insn_set.specs.declared.form.Insn.{Insn}
use Rattle.insn_set.specs.declared.form.Insn.TheVariants.{Goto, ConstString}
use Rattle.program_model.specs.declared.pass.Renumber.{Renumber}
use Rattle.relax.specs.declared.step.Step.{Step}
use Rattle.relax.specs.declared.step.Step.TheVariants.{Fixed, Jump}

-- the new number of an entry
abbrev pub renumbered : List ℕ → ℕ → ℕ
renumbered table number = slice_index_or table number number

-- a goto's target, and the units of every other form, strings having their new numbers
abbrev pub step_of : Renumber → Insn → Step
step_of numbers (Goto target) = Jump target
step_of numbers (ConstString to string) = Fixed (format_units (shortest_string (renumbered numbers.strings.items string)))
step_of numbers insn = Fixed (units_of insn (pos 0))

-- no form has more than five units
abbrev pub IsSmall : Step → Type 0
IsSmall (Fixed units) = units ≤ 5
IsSmall (Jump target) = Unit {0}
