use Rattle.std.proofs.Common.{arith, ◌∙◌}
use Rattle.std.specs.Prelude.{slice_set}
use Rattle.dalvik_state.proofs.Fills.{fill_more}
use Rattle.dalvik_state.proofs.items.fill.Goals as goal

pub loop-place-preserved : goal.loop-place-preserved
loop-place-preserved c =
    c.write_register.ensures
    ∙ (λ j. slice_set (c.loop-place.invariant j) c.loop-place.place (c.filled.ensures j))
    ∙ fill_more c.args.item c.args.numbers.now c.args.items.now c.loop-place.place (omega arith)
