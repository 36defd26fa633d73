use Rattle.quiet_methods.proofs.methods.quiet_methods.Goals as goal
use Rattle.quiet_methods.proofs.Judging.{if_ok}
use Rattle.quiet_methods.proofs.Collecting.{marked}

-- src/methods.rt:185:1
pub returns : goal.returns
returns c = λ resolved few. if_ok _ _ c.marks_of.result (λ v e. marked c.args.program.now c.args.frames.now c.in_ok-owns.owns.nodes.items c.deref.result.now c.in_ok-owns.owns.ranks.items c.in_ok-levels.levels.items c.deref-2.result.now v.items
    (c.in_ok-owns.ensures resolved) c.deref.ensures.value c.in_ok-levels.ensures c.deref-2.ensures.value e) c.marks_of.ensures
