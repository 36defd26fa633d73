use Rattle.std.proofs.Common.{◌∙◌, sym}
use Rattle.facts_check.proofs.Bound.{bound_is, one_gives}
use Rattle.facts_check.proofs.results.bound_result.Goals as goal

pub returns-in-One : goal.returns-in-One
returns-in-One c = λ known.
    one_gives c.args.known.now c.args.class c.args.method c.args.kind c.in-One.at c.result_at.result
    (sym c.in-One.is ∙ bound_is c.args.known.now.program.now c.args.class c.args.method c.args.kind c.in_ok-at.field-0 known.formed (c.in_ok-at.ensures known.resolved.of))
    c.result_at.ensures
