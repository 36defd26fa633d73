use Rattle.std.proofs.Common.{◌≡◌, List, drop}
use Rattle.std.specs.List.{list_any}
use Rattle.rule_text.specs.Rules.{Condition}
use Rattle.rule_text.specs.Related.{AreEach, IsConditionOf}
use Rattle.rule_defs.specs.Members.{asks_visibility}
use Rattle.keep_rules.proofs.access.some_asks.Given as goal

-- those gone through don't
abbrev pub invariant-loop-condition : goal.invariant-loop-condition
invariant-loop-condition l = (cs : List Condition) → AreEach IsConditionOf l.conditions cs → list_any asks_visibility (drop l.condition-index cs) ≡ list_any asks_visibility cs
