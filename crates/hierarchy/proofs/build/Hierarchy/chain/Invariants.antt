use Rattle.std.proofs.Common.{◌≡◌, ◌-◌, ◌++◌, Some, length}
use Rattle.program_model.specs.declared.program.Program.{Program}
use Rattle.class_defs.specs.Places.{super_place, chain_from}
use Rattle.hierarchy.specs.Shapes.{IsOf}
use Rattle.hierarchy.proofs.build.Hierarchy.chain.Given as goal

abbrev pub invariant-loop-done : goal.invariant-loop-done
invariant-loop-done l = (p : Program) → IsOf p l.self → l.chain.items ++ chain_from (super_place p) (length p.classes - l.done) l.at ≡ chain_from (super_place p) (length p.classes) (Some l.class)
