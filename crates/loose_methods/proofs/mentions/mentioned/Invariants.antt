use Rattle.std.proofs.Common.{◌≡◌, take}
use Rattle.std.specs.List.{flat_map}
use Rattle.loose_methods.specs.Mentioned.{class_methods}
use Rattle.loose_methods.proofs.mentions.mentioned.Given as goal

abbrev pub invariant-loop-class : goal.invariant-loop-class
invariant-loop-class l = l.out.items ≡ flat_map class_methods (take l.class-index l.program.classes)
