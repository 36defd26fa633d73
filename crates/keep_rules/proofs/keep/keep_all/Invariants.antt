use Rattle.std.proofs.Common.{◌≡◌, true, drop}
use Rattle.program_model.specs.ProgramRules.{is_well_formed}
use Rattle.rule_text.specs.Rules.{KeepRule}
use Rattle.rule_text.specs.Related.{IsKeepOf}
use Rattle.rule_defs.specs.Kept.{keeps}
use Rattle.keep_rules.specs.Grown.{rule_marks, LeftAll}
use Rattle.keep_rules.specs.Sought.{AreStanding}
use Rattle.keep_rules.proofs.keep.keep_all.Given as goal

abbrev pub invariant-loop-place : goal.invariant-loop-place
invariant-loop-place l = (k : KeepRule) → is_well_formed l.program ≡ true → IsKeepOf l.rule k → keeps k ≡ true → AreStanding l.program k.class.above l.under → LeftAll (rule_marks l.program k (drop l.place l.program.classes)) (rule_marks l.program k l.program.classes) l.initial.marks l.marks
