use Rattle.std.proofs.Common.{◌≡◌, ◌<◌, true, length, arith, rules}
use Rattle.fixpoint.proofs.Patience.{spends_widened}
use Rattle.fixpoint.proofs.along.follow_patiently.Goals as goal

pub returns-then-left-eq0-clause-spends : goal.returns-then-left-eq0-clause-spends
returns-then-left-eq0-clause-spends g c =
    let f = c.in_ok-rose.ensures in
    let rose : c.in_ok-rose.rose ≡ true = search rules in
    let ends = (g.met.F.Flow.laws c.args.flow.now c.requires.sound).ends c.args.edge c.requires.edge in
    let lt : (g.F.Flow.graph c.args.flow.now).target c.args.edge < length c.args.table.now.waiting.items = omega (arith, ends.1, c.requires.waiting) in
    spends_widened _ _ _ _ _ _ _ lt (f.marked rose) (f.falls rose (search rules))
