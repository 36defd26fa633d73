use Rattle.std.proofs.Common.{length, get_or, ap, ◌∙◌, arith}
use Rattle.live_regs.proofs.Sweeping.{upto_none, upto_more, upto_done}
use Rattle.live_regs.proofs.sweeps.sweep_regions.Goals as goal

pub loop-place-init : goal.loop-place-init
loop-place-init c = upto_none c.args.body.now c.args.words.now c.args.caught.now.items _ c.requires

pub loop-place-preserved : goal.loop-place-preserved
loop-place-preserved c = upto_more c.args.body.now c.args.words.now c.loop-place.caught.items c.catch-moved.new.caught.items c.loop-place.changed c.catch-moved.result c.either-changed.result
    c.loop-place.place c.index-regions-place.result (omega (arith, c.loop-place-test.true, ap length c.as_slice-regions.ensures))
    (c.index-regions-place.is ∙ ap (λ l. get_or l c.loop-place.place c.index-regions-place.result) c.as_slice-regions.ensures) c.either-changed.ensures c.loop-place.invariant c.catch-moved.ensures

pub returns : goal.returns
returns c = record {
  so_far = c.loop-place.invariant.so_far;
  caught = upto_done c.args.body.now c.args.words.now c.loop-place.caught.items c.loop-place.changed c.loop-place.place (omega (arith, c.loop-place-test.false, ap length c.as_slice-regions.ensures)) c.loop-place.invariant;
}
