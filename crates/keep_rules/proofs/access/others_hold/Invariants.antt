use Rattle.std.proofs.Common.{◌≡◌, List, drop}
use Rattle.rule_text.specs.Rules.{Condition}
use Rattle.rule_text.specs.Related.{AreEach, IsConditionOf}
use Rattle.keep_rules.specs.Fits.{role_of, others_hold}
use Rattle.keep_rules.proofs.access.others_hold.Given as goal

-- those gone through hold
abbrev pub invariant-loop-condition : goal.invariant-loop-condition
invariant-loop-condition l = (cs : List Condition) → AreEach IsConditionOf l.conditions cs → others_hold (role_of l.role) l.flags.0 (drop l.condition-index cs) ≡ others_hold (role_of l.role) l.flags.0 cs
