use Rattle.pipeline.proofs.RoundLemmas.{ran_so}
use Rattle.pipeline.proofs.rounds.finish.Goals as goal

pub returns-clause-ran : goal.returns-clause-ran
returns-clause-ran c = ran_so c.args.outside.now c.args.advice.now.admitted.methods.items c.args.first c.in_ok-left.left c.outcome_of.result c.outcome_of.ensures.program c.outcome_of.ensures.origins c.outcome_of.ensures.rounds c.in_ok-left.ensures.run
