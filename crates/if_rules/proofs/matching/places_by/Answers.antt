use Rattle.keep_rules.proofs.KeepLemmas.{standing_free}
use Rattle.if_rules.proofs.matching.places_by.Goals as goal

pub returns-in-None : goal.returns-in-None
returns-in-None c = λ k ready is. c.places_matched.ensures k is (standing_free c.args.view.now.program.now c.args.rule.now.above k.above c.in-None.is is.above)
