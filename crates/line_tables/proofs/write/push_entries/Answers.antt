use Rattle.line_tables.proofs.Fronts.{HasEntries-same, HasEntries-more}
use Rattle.line_tables.proofs.write.push_entries.Goals.{then-next-shown+in_ok-push_entry, else-next-shown}
use Rattle.line_tables.proofs.write.push_entries.Goals as goal

pub loop-i-preserved : goal.loop-i-preserved
loop-i-preserved c = elim c.if-next-shown.branch [
  | then-next-shown+in_ok-push_entry w ↦
      rw (w.out-is, w.address-is, w.line-is, w.shown-is) (HasEntries-more c.args.out.now.items c.args.lines.now c.args.starts.now c.args.first c.loop-i.out.items _ c.loop-i.i c.loop-i.address c.loop-i.line c.loop-i.shown c.loop-i.invariant c.loop-i-test.true w.if-next-shown.true w.in_ok-push_entry.ensures.ok)
  | else-next-shown w ↦
      rw (w.out-is, w.address-is, w.line-is, w.shown-is) (HasEntries-same c.args.out.now.items c.args.lines.now c.args.starts.now c.args.first c.loop-i.out.items c.loop-i.i c.loop-i.address c.loop-i.line c.loop-i.shown c.loop-i.invariant c.loop-i-test.true w.if-next-shown.false)
]
