use Rattle.std.proofs.Common.{[], ◌∷◌, ap, ◌∙◌, arith}
use Rattle.rewrite_pass.specs.Plans.{edited}
use Rattle.rewrite_pass.proofs.Writing.{edited_more}
use Rattle.rewrite_pass.proofs.write.write_insns.Goals as goal

pub loop-edit-preserved : goal.loop-edit-preserved
loop-edit-preserved c = edited_more c.args.edits.now c.args.insns.now c.loop-edit.insns c.write_one.new.insns c.loop-edit.edit-index c.edit-item.result c.loop-edit-test.true c.loop-edit.invariant
    (c.in_ok-write_one.ensures ∙ ap (λ e. edited (e ∷ []) c.loop-edit.insns) c.edit-item.is)
