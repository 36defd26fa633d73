use Rattle.redex_cli.proofs.work.trace_file.Goals as goal

pub returns-clause-traced : goal.returns-clause-traced
returns-clause-traced c = c.trace_input.ensures.traced c.args.inputs c.in-Ok.ensures.program c.in-Ok.ensures.table

pub returns-clause-refused : goal.returns-clause-refused
returns-clause-refused c = c.trace_input.ensures.refused c.args.inputs

pub returns-clause-bytes : goal.returns-clause-bytes
returns-clause-bytes c = c.trace_input.ensures.bytes c.args.inputs c.in-Ok.ensures.read
