use Rattle.std.proofs.Common.{◌∙◌, ap}
use Rattle.std.specs.Prelude.{flat_map}
use Rattle.hierarchy.specs.Touring.{others_in}
use Rattle.hierarchy.proofs.Listed.{subclasses_are}
use Rattle.hierarchy.proofs.build.Hierarchy.own_subclasses.Goals as goal

pub returns : goal.returns
returns c = λ p r l.
    let t = r.toured in
    subclasses_are p c.args.self.now.tour.numbers.items c.args.self.now.tour.by_number.items c.args.self.now.tour.ranges.rows t.numbered t.ranged c.args.class l c.in_ok-others.others.items c.in_file_order.result.items
    (c.in_ok-others.ensures ∙ ap (λ w. flat_map (others_in w c.args.class) c.row.result.now) c.as_slice.ensures.value ∙ ap (flat_map (others_in c.args.self.now.tour.by_number.items c.args.class)) c.row.ensures)
    c.in_file_order.ensures.rising c.in_file_order.ensures.kept c.in_file_order.ensures.from
