use Rattle.std.proofs.Common.{◌≡◌, List, drop}
use Rattle.std.specs.List.{list_any}
use Rattle.rule_text.specs.Rules.{Entry}
use Rattle.rule_text.specs.Related.{AreEach, IsEntryOf}
use Rattle.rule_defs.specs.Kept.{is_setting}
use Rattle.keep_rules.specs.Entries.{setting_of}
use Rattle.keep_rules.proofs.outside.is_off.Given as goal

abbrev pub invariant-loop-entry : goal.invariant-loop-entry
invariant-loop-entry l = (es : List Entry) → AreEach IsEntryOf l.entries es → list_any (is_setting (setting_of l.wanted)) (drop l.entry-index es) ≡ list_any (is_setting (setting_of l.wanted)) es
