use Rattle.std.proofs.Common.{false, refl, get_or}
use Rattle.stub_library.specs.Marking.{found_list}
use Rattle.stub_library.proofs.Steps.{flat_taken}
use Rattle.stub_library.proofs.found.clear_found.Goals as goal

pub loop-method-preserved : goal.loop-method-preserved
loop-method-preserved c = flat_taken false (found_list c.args.program.now c.args.class) c.args.marks.now c.loop-method.marks c.clear_one.new.marks c.args.methods.now c.args.methods.now c.loop-method.method-index (get_or c.args.methods.now c.loop-method.method-index 0) 0 refl refl c.loop-method-test.true c.loop-method.invariant c.clear_one.ensures
