use Rattle.std.proofs.Common.{◌≡◌, List, drop, map}
use Rattle.rule_text.specs.Rules.{Condition}
use Rattle.rule_text.specs.Related.{AreEach, IsConditionOf}
use Rattle.dalvik_defs.specs.Naming.{mark_of}
use Rattle.keep_rules.specs.Fits.{marks_hold}
use Rattle.keep_rules.proofs.access.marks_fit.Given as goal

-- those gone through hold
abbrev pub invariant-loop-condition : goal.invariant-loop-condition
invariant-loop-condition l = (cs : List Condition) → AreEach IsConditionOf l.conditions cs → marks_hold (map (mark_of l.program) l.marks) (drop l.condition-index cs) ≡ marks_hold (map (mark_of l.program) l.marks) cs
