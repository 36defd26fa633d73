use Rattle.redex_cli.proofs.work.list_live.Goals as goal

pub returns-clause-lists : goal.returns-clause-lists
returns-clause-lists c = c.live_of.ensures.lists c.args.inputs c.in-Ok.ensures.program c.in-Ok.ensures.accepted c.in-Ok.ensures.table

pub returns-clause-refused : goal.returns-clause-refused
returns-clause-refused c = c.live_of.ensures.refused c.args.inputs

pub returns-clause-bytes : goal.returns-clause-bytes
returns-clause-bytes c = c.live_of.ensures.bytes c.args.inputs
