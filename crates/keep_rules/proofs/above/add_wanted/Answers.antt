use Rattle.keep_rules.proofs.BelowLemmas.{asked_added, asked_unadded}
use Rattle.keep_rules.proofs.above.add_wanted.Goals as goal

pub returns : goal.returns
returns c = λ a ready l is. asked_added c.args.view.now.program.now a c.args.kind c.in_ok-wanted.wanted c.args.kinds.now.items _ (c.in_ok-wanted.ensures a ready l is) c.if-not-wanted.false c.in_ok-push.ensures.items

pub returns-then-not-wanted : goal.returns-then-not-wanted
returns-then-not-wanted c = λ a ready l is. asked_unadded c.args.view.now.program.now a c.args.kind c.in_ok-wanted.wanted c.args.kinds.now.items (c.in_ok-wanted.ensures a ready l is) c.if-not-wanted.true
