use Rattle.std.proofs.Common.{rules}
use Rattle.script_text.proofs.ValueLemmas.{array_cut}
use Rattle.script_text.proofs.values.array_given.Goals as goal

pub returns : goal.returns
returns c = array_cut c.args.text.now c.in-Some.colon c.in_ok-item.item c.size_behind.result c.sized.result c.in-Some.ensures.place (search rules) (search rules) c.sized.ensures
