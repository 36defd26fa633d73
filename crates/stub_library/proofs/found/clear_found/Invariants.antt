use Rattle.std.proofs.Common.{◌≡◌, take, false}
use Rattle.std.specs.List.{flat_map}
use Rattle.stub_library.specs.Marking.{set_all, found_list}
use Rattle.stub_library.proofs.found.clear_found.Given as goal

abbrev pub invariant-loop-method : goal.invariant-loop-method
invariant-loop-method l = l.marks ≡ set_all false l.initial.marks (flat_map (found_list l.program l.class) (take l.method-index l.methods))
