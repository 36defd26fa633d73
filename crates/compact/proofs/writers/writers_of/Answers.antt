use Rattle.std.proofs.Common.{refl}
use Rattle.compact.specs.Ties.{write_list_at}
use Rattle.compact.proofs.Rows.{rows_turned}
use Rattle.compact.proofs.writers.writers_of.Goals as goal

pub returns-clause-writers : goal.returns-clause-writers
returns-clause-writers c = rows_turned write_list_at c.args.body.now.insns c.in_ok-rows.rows.items c.deref.result.now c.in_ok-writers.writers.items c.args.body.now.registers refl c.in_ok-rows.ensures.long c.in_ok-rows.ensures.rows c.deref.ensures.value c.in_ok-writers.ensures.turned
