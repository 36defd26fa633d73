use Rattle.std.proofs.Common.{rules, sym, ◌∙◌}
use Rattle.verify.proofs.Standing.{bases_on}
use Rattle.verify.proofs.tables.Tables.first_base.Goals as goal

pub loop-kind-preserved : goal.loop-kind-preserved
loop-kind-preserved c = bases_on c.args.self.now c.loop-kind.kind c.shape_at.result c.loop-kind.invariant (search rules) (sym c.is_base.ensures ∙ c.if-not-is_base.false)
