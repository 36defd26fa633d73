use Rattle.std.proofs.Common.{◌∙◌, sym}
use Rattle.hierarchy.proofs.Indexed.{AtPlace, at_place}
use Rattle.hierarchy.proofs.Ranging.{index_of_get, ranged_test}
use Rattle.hierarchy.proofs.build.Hierarchy.is_under.Goals as goal

pub returns-in-Some : goal.returns-in-Some
returns-in-Some c = λ p r l u.
    let look = c.in-Some.ensures.lookup in
    let t = r.toured in
    let at : AtPlace c.args.self.now.tour.numbers.items c.args.lower c.in-Some.number.now = at_place c.args.self.now.tour.numbers.items c.as_slice.result.now c.args.lower c.in-Some.number.now c.as_slice.ensures.value look.1 look.3.0 in
    c.has.ensures (t.ranged.rising c.args.upper)
    ∙ ranged_test p c.args.self.now.tour.numbers.items c.args.self.now.tour.by_number.items c.args.self.now.tour.ranges.rows c.args.lower c.args.upper c.in-Some.number.now t.numbered t.ranged l u (sym (index_of_get c.args.self.now.tour.numbers.items c.args.lower c.in-Some.number.now at.got))
