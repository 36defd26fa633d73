use Rattle.redex_cli.proofs.Traced.{table_with_library}
use Rattle.redex_cli.proofs.work.table_with.Goals as goal

pub returns-in-Some-clause-table : goal.returns-in-Some-clause-table
returns-in-Some-clause-table c =
    table_with_library c.args.library c.in-Some.library c.args.program.now c.args.closed c.narrowed_outside.result c.in-Some.is c.narrowed_outside.ensures.table
