use Rattle.std.proofs.Common.{◌≡◌, length, replicate, ap, ◌∙◌, arith, rules, get_or, ◌-◌}
use Rattle.body_graph.proofs.Covers.{covers_first, covers_back, covers_all}
use Rattle.body_graph.proofs.cover.covers_of.Goals as goal

pub loop-place-init : goal.loop-place-init
loop-place-init c =
    let filled : c.in_ok-places.places.items ≡ replicate (length c.args.body.now.insns) (length c.as_slice-regions.result.now) = search rules in
    covers_first c.args.body.now.regions (length c.args.body.now.insns) (length c.as_slice-regions.result.now) c.in_ok-places.places.items (ap length c.as_slice-regions.ensures) filled

pub loop-place-preserved : goal.loop-place-preserved
loop-place-preserved c = covers_back c.args.body.now.regions (length c.args.body.now.insns) c.loop-place.place c.loop-place.places.items c.cover.new.places.items c.index-regions-place.result c.loop-place-test.true (omega (arith, c.loop-place.auto.place, ap length c.as_slice-regions.ensures)) (c.index-regions-place.is ∙ ap (λ l. get_or l (c.loop-place.place - 1) c.index-regions-place.result) c.as_slice-regions.ensures) c.loop-place.invariant c.cover.ensures.long c.cover.ensures.given

pub returns : goal.returns
returns c = record { long = c.loop-place.invariant.long; places = covers_all c.args.body.now.regions (length c.args.body.now.insns) c.loop-place.place c.loop-place.places.items c.loop-place-test.false c.loop-place.invariant }
