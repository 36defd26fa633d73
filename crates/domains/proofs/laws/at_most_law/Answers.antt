use Rattle.domains.specs.Ranges.{range_joined, range_widened}
use Rattle.domains.specs.ValueLaws.{joined_reduced, widened_reduced, over_at_most}
use Rattle.domains.proofs.laws.at_most_law.Goals as goal

pub returns-clause-join_reduced : goal.returns-clause-join_reduced
returns-clause-join_reduced c = joined_reduced

pub returns-clause-widen_reduced : goal.returns-clause-widen_reduced
returns-clause-widen_reduced c = widened_reduced

pub returns-clause-join : goal.returns-clause-join
returns-clause-join c x y = over_at_most x y (range_joined x.interval y.interval)

pub returns-clause-widen : goal.returns-clause-widen
returns-clause-widen c x y = over_at_most x y (range_widened x.interval y.interval)
