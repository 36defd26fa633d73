use Rattle.std.proofs.Common.{◌≡◌, take, false}
use Rattle.std.specs.List.{flat_map}
use Rattle.stub_library.specs.Marking.{set_all, found_list}
use Rattle.stub_library.proofs.found.clear_below.Given as goal

abbrev pub invariant-loop-class : goal.invariant-loop-class
invariant-loop-class l = l.marks ≡ set_all false l.initial.marks (flat_map (λ d. flat_map (found_list l.program d) l.methods) (take l.class-index l.classes))
