use Rattle.std.proofs.Common.{◌≡◌, ◌-◌, ℕ, length}
use Rattle.class_defs.specs.Places.{super_place, chain_from}
use Rattle.class_defs.specs.Members.{own_virtual}
use Rattle.class_defs.specs.Finding.{first_among, finds_virtual}
use Rattle.hierarchy.specs.Naming.{IsKey}
use Rattle.hierarchy.specs.Shapes.{IsOf}
use Rattle.hierarchy.proofs.build.Hierarchy.find_virtual.Given as goal

abbrev pub invariant-loop-done : goal.invariant-loop-done
invariant-loop-done l = (name proto : ℕ) → IsOf l.program l.self → IsKey l.program l.self l.key name proto → first_among (own_virtual l.program name proto) (chain_from (super_place l.program) (length l.program.classes - l.done) l.at) ≡ finds_virtual l.program name proto l.class
