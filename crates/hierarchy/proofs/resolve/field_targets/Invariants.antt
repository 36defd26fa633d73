use Rattle.std.proofs.Common.{◌≡◌, map, take, Some, length}
use Rattle.program_model.specs.declared.program.Program.{Program}
use Rattle.class_defs.specs.Finding.{field_by}
use Rattle.hierarchy.specs.Shapes.{IsOf}
use Rattle.hierarchy.specs.Walking.{IsFair}
use Rattle.hierarchy.proofs.resolve.field_targets.Given as goal

abbrev pub invariant-loop-number : goal.invariant-loop-number
invariant-loop-number l = record {
  fair : IsFair l.fn.walk → IsFair l.walk;
  size : length l.walk.seen.items ≡ length l.fn.walk.seen.items;
  made : (p : Program) → IsOf p l.tables → l.fields ≡ p.fields → IsFair l.fn.walk → length l.fn.walk.seen.items ≡ length p.classes → l.targets.items ≡ map (λ f. field_by p (Some f)) (take l.number l.fields);
}
