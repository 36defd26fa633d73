use Rattle.std.proofs.Common.{◌∙◌, sym}
use Rattle.keep_rules.proofs.EntryLemmas.{last_pair}
use Rattle.keep_rules.proofs.outside.is_last.Goals as goal

pub returns-in-Some : goal.returns-in-Some
returns-in-Some c = λ e. last_pair c.args.pairs.now _ c.in-Some.pair.now c.args.class c.args.owner (sym c.in-Some.ensures.value) (sym c.is_pair.ensures ∙ e)
