use Rattle.std.proofs.Common.{◌∙◌, sym, arith}
use Rattle.body_edit.specs.declared.fate.Fate.TheVariants as fate
use Rattle.body_edit.proofs.Swapped.{so_far_none, so_far_no, so_far_yes, so_far_all}
use Rattle.body_edit.proofs.keeping.keep_left.Goals as goal
use Rattle.body_edit.proofs.keeping.keep_left.Goals.{then-is_left, else-is_left}

pub loop-position-init : goal.loop-position-init
loop-position-init g c = so_far_none c.args.fates.now c.args.items.now.items

pub loop-position-preserved : goal.loop-position-preserved
loop-position-preserved g c = elim c.if-is_left.branch [
  | then-is_left w ↦ rw (w.items-is, w.kept-is)
      (so_far_yes c.args.fates.now c.args.items.now.items c.loop-position.items.items _ c.loop-position.kept c.loop-position.position fate.Stays c.loop-position.invariant (omega arith) (omega arith) (sym c.is_left.ensures ∙ w.if-is_left.true) w.swap.ensures.by_index)
  | else-is_left w ↦ rw (w.items-is, w.kept-is)
      (so_far_no c.args.fates.now c.args.items.now.items c.loop-position.items.items c.loop-position.kept c.loop-position.position fate.Stays c.loop-position.invariant (omega arith) (sym c.is_left.ensures ∙ w.if-is_left.false))
]

pub returns : goal.returns
returns g c = c.truncate.ensures.items ∙ so_far_all c.args.fates.now c.args.items.now.items c.loop-position.items.items c.loop-position.kept c.loop-position.position c.loop-position.invariant (omega arith)
