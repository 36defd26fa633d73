-- Instructions in their places.
use Rattle.std.specs.Prelude.{ℕ, suc, ◌+◌, ◌-◌, pos, ◌-ℤ◌, List, [], ◌∷◌, ◌++◌, nat_eq, nat_le, slice_index_or, if◌then◌else◌}
use Rattle.insn_set.specs.Spelling.{shortest, shortest_string}
use Rattle.insn_set.specs.declared.format.Format.{Format}
use Rattle.insn_set.specs.declared.form.Insn.{Insn}
use Rattle.insn_set.specs.declared.form.Insn.TheVariants.{ConstString, Goto, If, IfZero, FillArray, PackedSwitch, SparseSwitch}
use Rattle.program_model.specs.declared.pass.Renumber.{Renumber}
use Rattle.relax.specs.Steps.{renumbered}
use Rattle.relax.specs.Payloads.{units_behind}
use Rattle.relax.specs.declared.layout.Layout.{Layout}
use Rattle.code_write.specs.Opcodes.{opcode_of}
use Rattle.code_write.specs.Fields.{fields_of}
use Rattle.code_write.specs.Units.{unit_bytes, units_in}

-- where things stand, in units: each position, each payload, and the end of all
pub record Spots : Type 0 where
  pub starts : List ℕ
  pub payloads : List ℕ
  pub size : ℕ

abbrev pub spots_of : Layout → Spots
spots_of layout = record { starts = layout.starts.items; payloads = layout.payloads.items; size = layout.size }

-- where a position begins
abbrev pub place_at : List ℕ → ℕ → ℕ → ℕ
place_at starts end position = slice_index_or starts position end

-- how far it is, in 32 bits of which the highest is the sign
abbrev pub far_of : ℕ → ℕ → ℕ
far_of from to = if nat_le from to then to - from else 4294967296 - (from - to)

-- the first format with room; strings have their new numbers
abbrev pub format_of : Renumber → ℕ → ℕ → Insn → Format
format_of numbers from to (ConstString register string) = shortest_string (renumbered numbers.strings.items string)
format_of numbers from to insn = shortest insn (pos to -ℤ pos from)

-- the units of an instruction at `from` that goes to `to`
abbrev pub insn_units : Renumber → ℕ → ℕ → Insn → List ℕ
insn_units numbers from to insn = let format = format_of numbers from to insn in units_in format (opcode_of insn format) (fields_of insn format numbers (far_of from to))

abbrev pub payload_count : Insn → ℕ
payload_count insn = if nat_eq (units_behind insn) 0 then 0 else 1

-- where an instruction goes: to its target, or to its payload
abbrev pub goes_to : Spots → ℕ → ℕ → Insn → ℕ
goes_to layout payload from (Goto target) = place_at layout.starts layout.size target
goes_to layout payload from (If test a b target) = place_at layout.starts layout.size target
goes_to layout payload from (IfZero test a target) = place_at layout.starts layout.size target
goes_to layout payload from (FillArray on width items) = place_at layout.payloads layout.size payload
goes_to layout payload from (PackedSwitch on first targets) = place_at layout.payloads layout.size payload
goes_to layout payload from (SparseSwitch on keys targets) = place_at layout.payloads layout.size payload
goes_to layout payload from insn = from

-- the bytes of the instructions from `at` on, `payload` of the ones before them having payloads
abbrev pub code_text : Renumber → Spots → ℕ → ℕ → List Insn → List ℕ
code_text numbers layout at payload [] = []
code_text numbers layout at payload (insn ∷ insns) = let from = place_at layout.starts layout.size at in unit_bytes (insn_units numbers from (goes_to layout payload from insn) insn) ++ code_text numbers layout (suc at) (payload + payload_count insn) insns
