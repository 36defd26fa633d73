use Rattle.std.proofs.Common.{◌∙◌, refl, take, get_or}
use Rattle.stub_library.specs.Shut.{type_clear}
use Rattle.stub_library.proofs.Levels.{one_taken, meets_one}
use Rattle.stub_library.proofs.Adding.{meets_none}
use Rattle.stub_library.proofs.open.meet_types.Goals as goal

pub loop-kind-init : goal.loop-kind-init
loop-kind-init c = meets_none c.args.program.now c.args.met.now

pub loop-kind-preserved : goal.loop-kind-preserved
loop-kind-preserved c = meets_one c.args.program.now (type_clear c.args.program.now c.args.declared.now.library.now) (take c.loop-kind.kind-index c.args.kinds.now) _ (get_or c.args.kinds.now c.loop-kind.kind-index 0)
    c.args.met.now c.loop-kind.met c.meet_type.new.met
    (one_taken c.args.kinds.now c.args.kinds.now c.loop-kind.kind-index (get_or c.args.kinds.now c.loop-kind.kind-index 0) 0 refl refl c.loop-kind-test.true)
    c.loop-kind.invariant c.in_ok-meet_type.ensures
