use Rattle.headline.proofs.Counted.{one_is_same, same_is_one}
use Rattle.headline.proofs.rounds.one_round_law.Goals as goal

pub returns-clause-same : goal.returns-clause-same
returns-clause-same c = one_is_same

pub returns-clause-one : goal.returns-clause-one
returns-clause-one c = same_is_one
