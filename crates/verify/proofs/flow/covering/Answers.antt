use Rattle.std.proofs.Common.{◌≡◌, ◌<◌, length, get_or, subst, rules, arith}
use Rattle.verify.proofs.Covering.{covered_behind}
use Rattle.verify.proofs.flow.covering.Goals as goal

pub loop-region-preserved : goal.loop-region-preserved
loop-region-preserved c =
    let i = c.loop-region.invariant in
    let e = c.saturating_add-place.ensures in
    let same = c.as_slice-region-items.ensures in
    record {
      covered = λ f. covered_behind (length c.args.body.now.insns) c.args.body.now.regions c.region-item.result c.loop-region.region-index c.loop-region.place c.loop-region.covering.len c.loop-region.covering.items c.as_mut_slice.result.now c.cover.new.covering
          (subst (λ rs. c.loop-region.region-index < length rs) same c.loop-region-test.true) f (subst (λ rs. c.region-item.result ≡ get_or rs c.loop-region.region-index c.region-item.result) same c.region-item.is) i.place (search rules) (search rules) (i.covered f) c.cover.ensures;
      place = grind (arith, e, i.place);
    }
