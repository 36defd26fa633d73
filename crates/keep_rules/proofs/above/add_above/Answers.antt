use Rattle.keep_rules.proofs.BelowLemmas.{nothing_below, asked_above}
use Rattle.keep_rules.proofs.above.add_above.Goals as goal

pub returns-then-not-has : goal.returns-then-not-has
returns-then-not-has c = λ a ready l is. nothing_below c.args.view.now.program.now a c.args.kind c.args.kinds.now.items (c.has_below-has.ensures ready l c.if-not-has.true)

pub returns : goal.returns
returns c = λ a ready l is. asked_above c.args.view.now.program.now a c.args.kind c.args.kinds.now.items _ (c.in_ok-add_wanted.ensures a ready l is)
