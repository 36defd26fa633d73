use Rattle.std.proofs.Common.{List, drop}
use Rattle.rule_text.specs.Rules.{Entry}
use Rattle.rule_text.specs.Related.{AreEach, IsEntryOf}
use Rattle.keep_rules.specs.Grown.{all_marks, LeftAll}
use Rattle.keep_rules.specs.View.{IsReady}
use Rattle.keep_rules.proofs.outside.mark_entries.Given as goal

abbrev pub invariant-loop-entry : goal.invariant-loop-entry
invariant-loop-entry l = (es : List Entry) → IsReady l.view → AreEach IsEntryOf l.entries es → LeftAll (all_marks l.view.program.now (drop l.entry-index es)) (all_marks l.view.program.now es) l.initial.marks l.marks
