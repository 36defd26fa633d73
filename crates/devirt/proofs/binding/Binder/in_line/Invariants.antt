use Rattle.std.proofs.Common.{◌≡◌, ◌-◌, length}
use Rattle.hierarchy.specs.Shapes.{IsOf}
use Rattle.verify.specs.Building.{class_above}
use Rattle.devirt.specs.Binding.{in_line}
use Rattle.devirt.proofs.Chains.{Hits}
use Rattle.devirt.proofs.binding.Binder.in_line.Given as goal

abbrev pub invariant-loop-done : goal.invariant-loop-done
invariant-loop-done l = IsOf l.self.finder.program.now l.self.finder.hierarchy.now
    → Hits (class_above l.self.finder.program.now) l.upper (length l.self.finder.program.now.classes - l.done) l.at ≡ in_line l.self.finder.program.now l.lower l.upper
