use Rattle.keep_rules.proofs.EntryLemmas.{by_setting, by_keep, by_assume}
use Rattle.keep_rules.proofs.outside.mark_entry.Goals as goal

pub returns-in_ok-keep_by-in-Keep : goal.returns-in_ok-keep_by-in-Keep
returns-in_ok-keep_by-in-Keep c = λ e ready is. by_keep c.args.view.now.program.now c.args.entry.now c.in-Keep.rule e c.args.marks.now _ c.in-Keep.is is (λ k of. c.in_ok-keep_by-in-Keep.ensures k ready of)

pub returns-in_ok-mark_silent-in-Assume : goal.returns-in_ok-mark_silent-in-Assume
returns-in_ok-mark_silent-in-Assume c = λ e ready is. by_assume c.args.view.now.program.now c.args.entry.now c.in-Assume.rule e c.args.marks.now _ c.in-Assume.is is (λ a of. c.in_ok-mark_silent-in-Assume.ensures a ready of)

pub returns-in-Setting : goal.returns-in-Setting
returns-in-Setting c = λ e ready is. by_setting c.args.view.now.program.now c.args.entry.now _ e c.args.marks.now c.in-Setting.is is
