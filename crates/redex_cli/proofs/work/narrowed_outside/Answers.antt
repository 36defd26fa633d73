use Rattle.redex_cli.proofs.Traced.{table_by}
use Rattle.redex_cli.proofs.work.narrowed_outside.Goals as goal

pub returns-in-Ok-narrow-clause-table : goal.returns-in-Ok-narrow-clause-table
returns-in-Ok-narrow-clause-table c =
    λ rules table. table_by rules c.as_slice.result.now c.args.library c.args.program.now c.args.closed c.in-Ok-narrow.outside c.in-Ok.stubs c.as_slice.ensures table
    c.in-Ok.ensures.gives c.in-Ok-narrow.ensures.is
