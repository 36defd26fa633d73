use Rattle.std.proofs.Common.{◌≡◌, ◌++◌, ℕ, drop}
use Rattle.std.specs.List.{filter_map}
use Rattle.class_defs.specs.Members.{own_virtual}
use Rattle.hierarchy.specs.Naming.{IsKey}
use Rattle.hierarchy.specs.Shapes.{IsOf}
use Rattle.hierarchy.proofs.build.Hierarchy.virtual_among.Given as goal

abbrev pub invariant-loop-class : goal.invariant-loop-class
invariant-loop-class l = (name proto : ℕ) → IsOf l.program l.self → IsKey l.program l.self l.key name proto → l.found.items ++ filter_map (own_virtual l.program name proto) (drop l.class-index l.classes) ≡ filter_map (own_virtual l.program name proto) l.classes
