use Rattle.std.proofs.Common.{◌≡◌, ◌-◌, ℕ, Some, length}
use Rattle.program_model.specs.declared.program.Program.{Program}
use Rattle.class_defs.specs.Places.{super_place, chain_from}
use Rattle.class_defs.specs.Members.{own_method}
use Rattle.class_defs.specs.Finding.{first_among, finds_from}
use Rattle.hierarchy.specs.Naming.{IsKey}
use Rattle.hierarchy.specs.Shapes.{IsOf}
use Rattle.hierarchy.proofs.build.Hierarchy.find_from.Given as goal

abbrev pub invariant-loop-done : goal.invariant-loop-done
invariant-loop-done l = (p : Program) (name proto : ℕ) → IsOf p l.self → IsKey p l.self l.key name proto → first_among (own_method p name proto) (chain_from (super_place p) (length p.classes - l.done) l.at) ≡ finds_from p name proto (Some l.class)
