use Rattle.command_line.proofs.FrontLemmas.{strip_prefix-is}
use Rattle.command_line.proofs.told.after_front.Goals as goal

pub returns : goal.returns
returns c = strip_prefix-is c.args.front.now c.args.word.now c.strip_prefix.result c.strip_prefix.ensures.cases
