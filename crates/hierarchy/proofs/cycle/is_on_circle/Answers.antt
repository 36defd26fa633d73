use Rattle.std.proofs.Common.{◌≡◌, ◌++◌, ◌∙◌, sym, ap, subst}
use Rattle.class_defs.specs.Finding.{beside}
use Rattle.hierarchy.specs.Climbing.{In, ups}
use Rattle.hierarchy.specs.Tables.{row_of}
use Rattle.hierarchy.proofs.Circles.{lower_is_none}
use Rattle.hierarchy.proofs.cycle.is_on_circle.Goals as goal

pub returns-then-stands_lower-clause-is : goal.returns-then-stands_lower-clause-is
returns-then-stands_lower-clause-is c = λ l rising fair size.
    let ups_are : c.row.result.now ++ beside c.read.result ≡ ups c.args.supers.now c.args.lists.now.rows c.args.class = ap (λ l. l ++ beside c.read.result) c.row.ensures ∙ ap (λ o. row_of c.args.lists.now.rows c.args.class ++ beside o) c.read.ensures in
    lower_is_none c.args.supers.now c.args.lists.now.rows c.args.levels.now rising c.args.class (λ u i. c.stands_lower.ensures c.if-stands_lower.true u (subst (In u) (sym ups_are) i))
