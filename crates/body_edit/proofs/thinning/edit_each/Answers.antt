use Rattle.std.proofs.Common.{arith}
use Rattle.body_edit.specs.Places.{place_in}
use Rattle.body_edit.proofs.Left.{edited_more}
use Rattle.body_edit.proofs.thinning.edit_each.Goals as goal

pub loop-position-preserved : goal.loop-position-preserved
loop-position-preserved c = edited_more (place_in c.args.places.now) c.args.fates.now c.args.insns.now c.loop-position.insns c.loop-position.position _ _ c.edit.new.insn (omega arith) (omega arith)
    c.loop-position.invariant c.edit.ensures
