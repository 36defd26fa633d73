use Rattle.keep_rules.proofs.EachLemmas.{any_end, any_found, any_passed}
use Rattle.rule_text.specs.Related.{IsEntryOf}
use Rattle.rule_defs.specs.Kept.{is_setting}
use Rattle.keep_rules.specs.Entries.{setting_of}
use Rattle.keep_rules.proofs.outside.is_off.Goals as goal

pub returns-then-off : goal.returns-then-off
returns-then-off c = λ es are. any_found IsEntryOf (is_setting (setting_of c.args.wanted)) c.args.entries.now es c.loop-entry.entry-index _ _ are c.loop-entry-test.true c.entry-item.is (c.turns_off-off.ensures) c.if-off.true (c.loop-entry.invariant es are)

pub loop-entry-preserved : goal.loop-entry-preserved
loop-entry-preserved c = λ es are. any_passed IsEntryOf (is_setting (setting_of c.args.wanted)) c.args.entries.now es c.loop-entry.entry-index _ _ are c.loop-entry-test.true c.entry-item.is (c.turns_off-off.ensures) c.if-off.false (c.loop-entry.invariant es are)

pub returns : goal.returns
returns c = λ es are. any_end IsEntryOf (is_setting (setting_of c.args.wanted)) c.args.entries.now es _ are c.loop-entry-test.false (c.loop-entry.invariant es are)
