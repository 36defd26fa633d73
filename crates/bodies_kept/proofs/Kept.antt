-- A propagated program is kept.
use Rattle.std.proofs.Common.{◌≡◌, true, List, Bool}
use Rattle.program_model.specs.ProgramRules.{is_well_formed}
use Rattle.program_model.specs.declared.program.Program.{Program}
use Rattle.hierarchy.specs.Shapes.{IsResolved}
use Rattle.hierarchy.specs.declared.build.Hierarchy.{Hierarchy}
use Rattle.compact.specs.Narrow.{has_narrow_classes}
use Rattle.copy_prop.specs.Propagated.{IsPropagatedProgram}
use Rattle.bodies_kept.specs.Rereads.{Propagates}
use Rattle.bodies_kept.proofs.CopyPrograms.{program_propagates, propagated_shown}
use Rattle.bodies_kept.specs.Kept.{IsKept}
use Rattle.bodies_kept.proofs.Compacted.{any_code}
use Rattle.verify.specs.Methods.{TypesAll}
use Rattle.bodies_kept.proofs.Formed.{propagated_formed}
use Rattle.bodies_kept.proofs.CopyTyping.{propagated_typed}

pub propagated_kept : (p : Program) (h : Hierarchy) → is_well_formed p ≡ true → IsResolved p h → has_narrow_classes p ≡ true → TypesAll p h → (admitted : List Bool) (q : Program) → IsPropagatedProgram admitted p q → IsKept p q
propagated_kept p h w r narrow types admitted q i = record {
  formed = propagated_formed p h w r narrow types admitted q i;
  typed = propagated_typed p h w r narrow types admitted q i;
  others = any_code (Propagates p) p q (program_propagates admitted p q i);
  shown = λ o. propagated_shown admitted p q w r.of.once i o;
}
