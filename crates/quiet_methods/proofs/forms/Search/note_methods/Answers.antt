use Rattle.std.proofs.Common.{◌++◌}
use Rattle.quiet_methods.proofs.forms.Search.note_methods.Goals as goal
use Rattle.std.proofs.Common.{take}
use Rattle.quiet_methods.proofs.Collecting.{one_more, all_noted}

-- src/methods.rt:123:9
pub loop-method-preserved : goal.loop-method-preserved
loop-method-preserved c = λ done resolved a. one_more c.args.self.now.program.now c.args.frames.now done c.args.methods.now c.loop-method.method-index c.method-item.result c.note_method.new.owns.nodes.items c.note_method.new.owns.ranks.items c.loop-method-test.true c.method-item.is
    (c.in_ok-note_method.ensures (done ++ take c.loop-method.method-index c.args.methods.now) resolved (c.loop-method.invariant done resolved a))

-- src/methods.rt:113:5
pub returns : goal.returns
returns c = λ done resolved a. all_noted c.args.self.now.program.now c.args.frames.now done c.args.methods.now c.loop-method.method-index c.loop-method.owns.nodes.items c.loop-method.owns.ranks.items c.loop-method-test.false (c.loop-method.invariant done resolved a)
