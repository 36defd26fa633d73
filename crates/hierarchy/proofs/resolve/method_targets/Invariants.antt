use Rattle.std.proofs.Common.{◌≡◌, map, take, length}
use Rattle.program_model.specs.declared.program.Program.{Program}
use Rattle.hierarchy.specs.Shapes.{IsOf}
use Rattle.hierarchy.specs.Walking.{IsFair, method_by}
use Rattle.hierarchy.proofs.resolve.method_targets.Given as goal

abbrev pub invariant-loop-number : goal.invariant-loop-number
invariant-loop-number l = record {
  fair : IsFair l.fn.walk → IsFair l.walk;
  size : length l.walk.seen.items ≡ length l.fn.walk.seen.items;
  made : (p : Program) → IsOf p l.tables → l.methods ≡ p.methods → IsFair l.fn.walk → length l.fn.walk.seen.items ≡ length p.classes → l.targets.items ≡ map (method_by p) (take l.number l.methods);
}
