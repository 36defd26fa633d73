use Rattle.std.proofs.Common.{subst}
use Rattle.std.specs.Prelude.{IfOk}
use Rattle.if_rules.specs.Matching.{AreMatched}
use Rattle.if_rules.proofs.matching.classes_matched.Goals as goal

pub returns : goal.returns
returns c = λ k formed of is. subst (λ p. IfOk c.places_by.result (λ out. AreMatched p k out.items)) c.in_ok-view.ensures.program (c.places_by.ensures k (c.in_ok-view.ensures.ready formed of) is)
