use Rattle.std.proofs.Common.{◌≡◌, true, drop}
use Rattle.std.specs.List.{flat_map}
use Rattle.rule_text.specs.Rules.{KeepRule}
use Rattle.rule_text.specs.Related.{IsKeepOf}
use Rattle.rule_defs.specs.Kept.{keeps}
use Rattle.keep_rules.specs.Grown.{rule_marks, class_of_kind, LeftAll}
use Rattle.keep_rules.specs.Sought.{AreStanding}
use Rattle.keep_rules.specs.View.{IsReady}
use Rattle.keep_rules.proofs.keep.keep_kinds.Given as goal

abbrev pub invariant-loop-kind : goal.invariant-loop-kind
invariant-loop-kind l = (k : KeepRule) → IsReady l.view → IsKeepOf l.rule k → keeps k ≡ true → AreStanding l.view.program.now k.class.above l.under
    → LeftAll (rule_marks l.view.program.now k (flat_map (class_of_kind l.view.program.now) (drop l.kind-index l.kinds))) (rule_marks l.view.program.now k (flat_map (class_of_kind l.view.program.now) l.kinds)) l.initial.marks l.marks
