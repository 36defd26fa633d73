use Rattle.script_text.proofs.FrontLemmas.{strip_prefix-is}
use Rattle.script_text.proofs.pieces.behind.Goals as goal

pub returns : goal.returns
returns c = strip_prefix-is c.args.front.now c.args.word.now c.strip_prefix.result c.strip_prefix.ensures.cases
