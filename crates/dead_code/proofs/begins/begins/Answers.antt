use Rattle.std.proofs.Common.{◌≡◌, length, replicate, false, ap, ◌∙◌, arith, rules, get_or}
use Rattle.dead_code.proofs.Beginning.{begun_none, begun_more, begun_all}
use Rattle.dead_code.proofs.begins.begins.Goals as goal

pub loop-region-init : goal.loop-region-init
loop-region-init c =
    let filled : c.in_ok-marks.marks.items ≡ replicate (length c.args.body.now.insns) false = search rules in
    begun_none c.args.body.now.regions (length c.args.body.now.insns) c.in_ok-marks.marks.items filled

pub loop-region-preserved : goal.loop-region-preserved
loop-region-preserved c = begun_more c.args.body.now.regions (length c.args.body.now.insns) c.loop-region.region-index c.loop-region.marks.items c.mark.new.marks.items c.region-item.result (omega (arith, c.loop-region-test.true, ap length c.as_slice-region-items.ensures))
    (c.region-item.is ∙ ap (λ l. get_or l c.loop-region.region-index c.region-item.result) c.as_slice-region-items.ensures) c.loop-region.invariant c.mark.ensures.long c.mark.ensures.marked

pub returns : goal.returns
returns c = record {
  long = c.loop-region.invariant.long;
  begin = begun_all c.args.body.now.regions (length c.args.body.now.insns) c.loop-region.region-index c.loop-region.marks.items (omega (arith, c.loop-region-test.false, ap length c.as_slice-region-items.ensures)) c.loop-region.invariant;
}
