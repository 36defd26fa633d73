-- Methods whose code has other registers.
use Rattle.std.specs.Prelude.{◌≡◌, ◌⊎◌, ℕ, Some, None}
use Rattle.program_model.specs.declared.program.Program.{Program}
use Rattle.insn_regs.specs.Wides.{widths_of}
use Rattle.form_laws.specs.Solid.{HasRoom}
use Rattle.form_laws.specs.Renamed.{IsRenamed}
use Rattle.program_laws.specs.Others.{Codes}
use Rattle.program_laws.specs.Numbered.{NumberedCodes}
use Rattle.compact.specs.Renamed.{IsCompacted}

-- by number: a compacted body, or the same code
abbrev pub Compacts : Program → NumberedCodes
Compacts p k (Some b) (Some d) = IsCompacted (widths_of p) b d ⊎ (d ≡ b)
Compacts p k (Some b) None = ⊥
Compacts p k None (Some d) = ⊥
Compacts p k None None = Unit {0}

-- by name: a body with other registers, where its forms use registers that it has
abbrev pub Renames : Codes
Renames k (Some b) (Some d) = HasRoom b → (new : ℕ → ℕ) × IsRenamed b d new
Renames k a b = Unit {0}
