-- Where payloads stand.
use Rattle.std.specs.Prelude.{ℕ, ◌+◌, ◌*◌, ◌/◌, ◌%◌, min, List, [], ◌∷◌, length, nat_eq, if◌then◌else◌}
use Rattle.program_model.specs.Cells.{capped}
use Rattle.insn_set.specs.declared.form.Insn.{Insn}
use Rattle.insn_set.specs.declared.form.Insn.TheVariants.{FillArray, PackedSwitch, SparseSwitch}

-- the units of an instruction's payload, 0 where it has none: 64 bits hold every number that a body in memory has
abbrev pub units_behind : Insn → ℕ
units_behind (PackedSwitch on first targets) = capped (capped (length targets * 2) + 4)
units_behind (SparseSwitch on keys targets) = capped (capped (length targets * 4) + 2)
units_behind (FillArray on width items) = capped (capped (length items * width) + 1) / 2 + 4
units_behind insn = 0

-- the next even unit
abbrev pub even_place : ℕ → ℕ
even_place at = capped (at + at % 2)

-- a place in 32 bits
abbrev pub capped_place : ℕ → ℕ
capped_place at = min at 4294967295

-- where each payload begins
abbrev pub payload_places : ℕ → List Insn → List ℕ
payload_places at [] = []
payload_places at (insn ∷ insns) = if nat_eq (units_behind insn) 0 then payload_places at insns else capped_place (even_place at) ∷ payload_places (capped (even_place at + units_behind insn)) insns

-- where the last one ends
abbrev pub payload_end : ℕ → List Insn → ℕ
payload_end at [] = at
payload_end at (insn ∷ insns) = if nat_eq (units_behind insn) 0 then payload_end at insns else payload_end (capped (even_place at + units_behind insn)) insns
