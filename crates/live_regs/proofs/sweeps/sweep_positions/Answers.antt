use Rattle.std.proofs.Common.{◌-◌, length, slice_index, get_or, refl, ap, ◌∙◌, arith}
use Rattle.live_regs.proofs.Sweeping.{swept_none, swept_back, swept_done}
use Rattle.live_regs.proofs.sweeps.sweep_positions.Goals as goal

pub loop-position-init : goal.loop-position-init
loop-position-init c = swept_none c.args.body.now c.args.caught.now c.args.words.now.items _ _ (omega (arith, ap length c.as_slice-insns.ensures)) c.requires.so_far

pub loop-position-preserved : goal.loop-position-preserved
loop-position-preserved c = swept_back c.args.body.now c.args.covers.now c.args.caught.now c.args.words.now.items c.loop-position.words.items c.flow-moved.new.words.items c.loop-position.changed c.flow-moved.result c.either-changed.result
    c.loop-position.position (slice_index c.args.covers.now (c.loop-position.position - 1)) c.index-insns-position.result c.requires.covers c.loop-position-test.true (omega (arith, c.loop-position.auto.position, ap length c.as_slice-insns.ensures))
    (c.index-insns-position.is ∙ ap (λ l. get_or l (c.loop-position.position - 1) c.index-insns-position.result) c.as_slice-insns.ensures) refl c.either-changed.ensures c.loop-position.invariant c.flow-moved.ensures

pub returns : goal.returns
returns c = record {
  so_far = c.loop-position.invariant.so_far;
  same = c.loop-position.invariant.same;
  flowed = swept_done c.args.body.now c.args.caught.now c.args.words.now.items c.loop-position.words.items c.loop-position.changed c.loop-position.position c.loop-position-test.false c.loop-position.invariant;
}
