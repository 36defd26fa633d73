use Rattle.rule_text.proofs.FaultLemmas.{front_readable, all_readable}
use Rattle.rule_text.proofs.parse_file.readable.Goals as goal

pub returns-in-Some-clause-readable : goal.returns-in-Some-clause-readable
returns-in-Some-clause-readable c = front_readable c.args.text.now c.args.bad c.in-Some.at c.whole_len.result c.requires c.in-Some.is c.whole_len.ensures.whole

pub returns-in-None-clause-readable : goal.returns-in-None-clause-readable
returns-in-None-clause-readable c = all_readable c.args.text.now c.args.bad c.requires c.in-None.is
