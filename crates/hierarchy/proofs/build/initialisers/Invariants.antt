use Rattle.std.proofs.Common.{◌≡◌, ◌<◌, ◌^◌, ℕ, Some, map, take, length}
use Rattle.std.specs.Prelude.{slice_get}
use Rattle.program_model.specs.declared.program.Class.{Class}
use Rattle.class_defs.specs.Starts.{initialiser_of}
use Rattle.hierarchy.specs.Starting.{place_or_none}
use Rattle.hierarchy.proofs.build.initialisers.Given as goal

abbrev pub invariant-loop-class : goal.invariant-loop-class
invariant-loop-class l = ((i : ℕ) (c : Class) → slice_get l.program.classes i ≡ Some c → length c.methods < 2 ^ 32) → l.places.items ≡ map (λ c. place_or_none (initialiser_of l.program (Some c))) (take l.class-index l.program.classes)
