use Rattle.std.proofs.Common.{◌≡◌, true, List, length}
use Rattle.keep_rules.specs.Fits.{has_names}
use Rattle.rule_text.specs.Related.{AreEach, IsMemberOf}
use Rattle.rule_text.specs.Rules.{MemberRule}
use Rattle.if_rules.specs.Added.{is_met}
use Rattle.if_rules.proofs.Lives.{AllLeft}
use Rattle.if_rules.proofs.live.are_met.Given as goal

abbrev pub invariant-loop-rest : goal.invariant-loop-rest
invariant-loop-rest l = (ms : List MemberRule) → has_names l.fn.program l.fn.class ≡ true → AreEach IsMemberOf l.fn.lines ms → AllLeft IsMemberOf (is_met l.fn.program l.fn.live l.fn.class) l.rest ms

abbrev pub decreases-loop-rest : goal.decreases-loop-rest
decreases-loop-rest l = length l.rest
