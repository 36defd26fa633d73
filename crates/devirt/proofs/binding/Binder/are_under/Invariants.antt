use Rattle.std.proofs.Common.{◌≡◌, ◌<◌, length, take, true}
use Rattle.std.specs.List.{list_all}
use Rattle.class_defs.specs.Places.{is_under}
use Rattle.hierarchy.specs.Shapes.{IsResolved}
use Rattle.devirt.specs.Binding.{are_places}
use Rattle.devirt.proofs.binding.Binder.are_under.Given as goal

abbrev pub invariant-loop-class : goal.invariant-loop-class
invariant-loop-class l = IsResolved l.self.finder.program.now l.self.finder.hierarchy.now → are_places l.self.finder.program.now l.classes ≡ true → l.upper < length l.self.finder.program.now.classes
    → list_all (λ c. is_under l.self.finder.program.now c l.upper) (take l.class-index l.classes) ≡ true
