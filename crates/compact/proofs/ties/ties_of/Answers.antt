use Rattle.std.proofs.Common.{refl}
use Rattle.compact.specs.Ties.{ties_at}
use Rattle.compact.proofs.Rows.{rows_turned}
use Rattle.compact.proofs.ties.ties_of.Goals as goal

pub returns-clause-ties : goal.returns-clause-ties
returns-clause-ties c = rows_turned (ties_at c.args.widths.now) c.args.body.now.insns c.in_ok-rows.rows.items c.deref.result.now c.in_ok-ties.ties.items c.args.body.now.registers refl c.in_ok-rows.ensures.long c.in_ok-rows.ensures.rows c.deref.ensures.value c.in_ok-ties.ensures.turned
