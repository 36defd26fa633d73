use Rattle.std.proofs.Common.{◌≡◌, List, drop}
use Rattle.std.specs.List.{list_any}
use Rattle.rule_text.specs.Rules.{Condition}
use Rattle.rule_text.specs.Related.{AreEach, IsConditionOf}
use Rattle.keep_rules.specs.Fits.{role_of, sees}
use Rattle.keep_rules.proofs.access.some_sees.Given as goal

-- those gone through don't
abbrev pub invariant-loop-condition : goal.invariant-loop-condition
invariant-loop-condition l = (cs : List Condition) → AreEach IsConditionOf l.conditions cs → list_any (sees (role_of l.role) l.flags.0) (drop l.condition-index cs) ≡ list_any (sees (role_of l.role) l.flags.0) cs
