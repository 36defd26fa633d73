use Rattle.std.proofs.Common.{false, refl, get_or}
use Rattle.std.specs.List.{flat_map}
use Rattle.stub_library.specs.Marking.{found_list}
use Rattle.stub_library.proofs.Steps.{flat_taken}
use Rattle.stub_library.proofs.found.clear_below.Goals as goal

pub loop-class-preserved : goal.loop-class-preserved
loop-class-preserved c = flat_taken false (λ d. flat_map (found_list c.args.program.now d) c.args.methods.now) c.args.marks.now c.loop-class.marks c.clear_found.new.marks c.args.classes.now c.args.classes.now c.loop-class.class-index (get_or c.args.classes.now c.loop-class.class-index 0) 0 refl refl c.loop-class-test.true c.loop-class.invariant c.clear_found.ensures
