-- Programs in which no method of a wide type is named.
use Rattle.std.specs.Prelude.{Bool, not}
use Rattle.std.specs.List.{list_all}
use Rattle.program_model.specs.declared.program.Program.{Program}
use Rattle.insn_regs.specs.Wides.{is_wide_type}

-- A call of such a method would read one half of a wide as its receiver, and the other half may have been overwritten.
abbrev pub has_narrow_classes : Program → Bool
has_narrow_classes p = list_all (λ m. not (is_wide_type p m.class)) p.methods
