use Rattle.rule_text.specs.Rules.{ClassRule}
use Rattle.rule_text.specs.Related.{IsClassOf}
use Rattle.if_rules.specs.Matching.{MatchedBefore}
use Rattle.keep_rules.specs.Sought.{AreStanding}
use Rattle.if_rules.proofs.matching.places_matched.Given as goal

-- the matched classes of those gone through
abbrev pub invariant-loop-place : goal.invariant-loop-place
invariant-loop-place l = (k : ClassRule) → IsClassOf l.rule k → AreStanding l.program k.above l.under → MatchedBefore l.program k l.place l.out.items
