use Rattle.std.proofs.Common.{sym, ◌∙◌, slice_index}
use Rattle.receivers.specs.Receiving.{overrides}
use Rattle.receivers.proofs.Loops.{any_here, at_index, none_done, none_more}
use Rattle.receivers.proofs.finding.Finder.is_overridden_by.Goals as goal

pub loop-definer-preserved : goal.loop-definer-preserved
loop-definer-preserved c = λ f q k l short.
    let i = c.loop-definer.definer-index in
    let xs = c.args.definers.now in
    none_more (overrides c.args.self.now.program.now q c.args.class c.args.target) xs i c.loop-definer-test.true (c.loop-definer.invariant f q k l short)
    (sym (c.overrides.ensures f.resolved q k l (short i (slice_index xs i) (at_index xs i c.loop-definer-test.true))) ∙ c.if-overrides.false)

pub returns-then-overrides : goal.returns-then-overrides
returns-then-overrides c = λ f q k l short.
    let i = c.loop-definer.definer-index in
    let xs = c.args.definers.now in
    sym (any_here (overrides c.args.self.now.program.now q c.args.class c.args.target) xs i c.loop-definer-test.true
    (sym (c.overrides.ensures f.resolved q k l (short i (slice_index xs i) (at_index xs i c.loop-definer-test.true))) ∙ c.if-overrides.true))

pub returns : goal.returns
returns c = λ f q k l short. sym (none_done (overrides c.args.self.now.program.now q c.args.class c.args.target) c.args.definers.now c.loop-definer.definer-index c.loop-definer-test.false (c.loop-definer.invariant f q k l short))
