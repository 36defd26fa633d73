use Rattle.std.proofs.Common.{◌≡◌, ◌++◌, take}
use Rattle.std.specs.List.{flat_map}
use Rattle.loose_methods.specs.Mentioned.{marks_methods}
use Rattle.loose_methods.proofs.mentions.add_parameters.Given as goal

abbrev pub invariant-loop-list : goal.invariant-loop-list
invariant-loop-list l = l.out.items ≡ l.initial.out.items ++ flat_map marks_methods (take l.list-index l.lists)
