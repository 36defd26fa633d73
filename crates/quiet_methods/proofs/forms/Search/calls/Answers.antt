use Rattle.quiet_methods.specs.Bodies.{demand_in}
use Rattle.quiet_methods.proofs.forms.Search.calls.Goals as goal
use Rattle.std.proofs.Common.{ap, ◌∙◌}
use Rattle.quiet_methods.proofs.Judging.{call_more, call_lost}

-- src/bodies.rt:86:17
pub returns-then-not-branch : goal.returns-then-not-branch
returns-then-not-branch c = λ resolved. call_lost c.args.self.now.program.now c.args.insns.now c.args.frames.now c.loop-place.place c.index-insns-place.result c.loop-place.calls.items c.note.new.calls.items c.demand_in-demand.result c.in_ok-note.field-0 c.loop-place-test.true c.index-insns-place.is (c.loop-place.invariant resolved)
    (c.demand_in-demand.ensures resolved ∙ ap (λ o. demand_in c.args.self.now.program.now o c.index-insns-place.result) c.frame_in.ensures) c.in_ok-note.ensures c.if-not-branch.true

-- src/bodies.rt:83:9
pub loop-place-preserved : goal.loop-place-preserved
loop-place-preserved c = λ resolved. call_more c.args.self.now.program.now c.args.insns.now c.args.frames.now c.loop-place.place c.index-insns-place.result c.loop-place.calls.items c.note.new.calls.items c.demand_in-demand.result c.in_ok-note.field-0 c.loop-place-test.true c.index-insns-place.is (c.loop-place.invariant resolved)
    (c.demand_in-demand.ensures resolved ∙ ap (λ o. demand_in c.args.self.now.program.now o c.index-insns-place.result) c.frame_in.ensures) c.in_ok-note.ensures c.if-not-branch.false
