use Rattle.std.proofs.Common.{◌∙◌, ap, replicate, false}
use Rattle.keep_rules.proofs.BelowLemmas.{search_start}
use Rattle.keep_rules.proofs.above.classes_under.Goals as goal

pub returns : goal.returns
returns c = λ a ready is. c.in_ok-search.ensures a ready (search_start c.args.view.now.program.now a c.in_ok-under.under.items c.in_ok-kinds.kinds.items (c.in_ok-under.ensures ∙ ap (λ n. replicate n false) c.len.ensures) (c.in_ok-kinds.ensures a ready is))
