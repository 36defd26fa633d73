use Rattle.std.proofs.Common.{◌∙◌}
use Rattle.keep_rules.specs.Entries.{setting_of}
use Rattle.keep_rules.proofs.EntryLemmas.{setting_is, keep_no_setting, assume_no_setting}
use Rattle.keep_rules.proofs.outside.turns_off.Goals as goal

pub returns-in-Setting : goal.returns-in-Setting
returns-in-Setting c = λ e is. c.is_name.ensures ∙ setting_is (setting_of c.args.wanted) c.args.entry.now c.in-Setting.setting e c.in-Setting.is is

pub returns-in-Keep : goal.returns-in-Keep
returns-in-Keep c = λ e is. keep_no_setting (setting_of c.args.wanted) c.args.entry.now _ e c.in-Keep.is is

pub returns-in-Assume : goal.returns-in-Assume
returns-in-Assume c = λ e is. assume_no_setting (setting_of c.args.wanted) c.args.entry.now _ e c.in-Assume.is is
