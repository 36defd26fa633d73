-- Methods whose code reads originals in place of copies.
use Rattle.std.specs.Prelude.{◌≡◌, ◌⊎◌, Some, None}
use Rattle.program_model.specs.declared.program.Program.{Program}
use Rattle.insn_regs.specs.Wides.{widths_of}
use Rattle.program_laws.specs.Others.{Codes}
use Rattle.program_laws.specs.Numbered.{NumberedCodes}
use Rattle.copy_prop.specs.Propagated.{IsPropagated}
use Rattle.form_laws.specs.Reread.{AreReread}

-- by number: a propagated body, or the same code
abbrev pub Propagates : Program → NumberedCodes
Propagates p k (Some b) (Some d) = IsPropagated (widths_of p) b d ⊎ (d ≡ b)
Propagates p k (Some b) None = ⊥
Propagates p k None (Some d) = ⊥
Propagates p k None None = Unit {0}

-- by name: a body that reads originals
abbrev pub Rereads : Codes
Rereads k (Some b) (Some d) = AreReread b d
Rereads k a b = Unit {0}
