use Rattle.std.proofs.Common.{sym, ◌∙◌}
use Rattle.dex_write.proofs.SetLemmas.{bare_words, other_words}
use Rattle.dex_write.proofs.sets.push_words_of_directory.Goals as goal

pub returns-then-is_bare : goal.returns-then-is_bare
returns-then-is_bare c = bare_words c.args.own c.args.fields.now c.args.methods.now c.args.parameters.now c.args.out.now.items (sym c.is_bare.ensures ∙ c.if-is_bare.true)

pub returns : goal.returns
returns c = rw (other_words c.args.own c.args.fields.now c.args.methods.now c.args.parameters.now (sym c.is_bare.ensures ∙ c.if-is_bare.false)) at c.push_filled.ensures
