use Rattle.redex_cli.proofs.work.check_file.Goals as goal

pub returns-clause-file : goal.returns-clause-file
returns-clause-file c = c.counts_of.ensures.file c.args.file
