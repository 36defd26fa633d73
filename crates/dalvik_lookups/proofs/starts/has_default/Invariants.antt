use Rattle.std.proofs.Common.{◌≡◌, false, take}
use Rattle.std.specs.List.{list_any}
use Rattle.program_model.specs.declared.program.Program.{Program}
use Rattle.hierarchy.specs.Shapes.{IsOf}
use Rattle.dalvik_lookups.specs.Starting.{is_default}
use Rattle.dalvik_lookups.proofs.starts.has_default.Given as goal

abbrev pub invariant-loop-method : goal.invariant-loop-method
invariant-loop-method l = record { none : (p : Program) → IsOf p l.hierarchy → list_any (is_default p) (take l.method-index l.class.methods) ≡ false }
