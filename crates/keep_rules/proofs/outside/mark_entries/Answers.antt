use Rattle.class_defs.proofs.WellFormed.{sound}
use Rattle.keep_rules.proofs.EntryLemmas.{entries_start, entries_more, entries_end}
use Rattle.keep_rules.proofs.outside.mark_entries.Goals as goal

pub loop-entry-init : goal.loop-entry-init
loop-entry-init c = λ es ready are. entries_start c.args.view.now.program.now (sound c.args.view.now.program.now ready.formed) es c.args.marks.now

pub loop-entry-preserved : goal.loop-entry-preserved
loop-entry-preserved c = λ es ready are. entries_more c.args.view.now.program.now (sound c.args.view.now.program.now ready.formed) c.args.entries.now es c.loop-entry.entry-index _ c.args.marks.now c.loop-entry.marks c.mark_entry.new.marks are c.loop-entry-test.true c.entry-item.is
    (c.loop-entry.invariant es ready are) (λ e is. c.in_ok-mark_entry.ensures e ready is)

pub returns : goal.returns
returns c = λ es ready are. entries_end c.args.view.now.program.now (sound c.args.view.now.program.now ready.formed) c.args.entries.now es c.loop-entry.entry-index c.args.marks.now c.loop-entry.marks are c.loop-entry-test.false (c.loop-entry.invariant es ready are)
