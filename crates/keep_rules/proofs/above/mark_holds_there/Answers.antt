use Rattle.keep_rules.proofs.PlaceLemmas.{mark_unasked, mark_asked}
use Rattle.keep_rules.proofs.above.mark_holds_there.Goals as goal

pub returns-in-None : goal.returns-in-None
returns-in-None c = λ a ready l is. mark_unasked c.args.view.now.program.now c.args.kind a c.args.above.now.mark c.in-None.is is.mark

pub returns-in-Some : goal.returns-in-Some
returns-in-Some c = λ a ready l is. mark_asked c.args.view.now.program.now c.args.kind a c.args.above.now.mark c.in-Some.pattern c.has_mark_there.result c.in-Some.is is.mark (λ w of. c.has_mark_there.ensures w ready l of)
