use Rattle.std.proofs.Common.{◌≡◌, ◌∙◌}
use Rattle.std.specs.Prelude.{Some, None}
use Rattle.dalvik_state.specs.Views.{frame_of, world_of}
use Rattle.dalvik_state.specs.Worlds.{shape_at, spots_of}
use Rattle.dalvik_act.specs.Acting.{outline_of}
use Rattle.dalvik_act.proofs.Lengths.{measured_by, unmeasured_by}
use Rattle.dalvik_act.proofs.Safe.{stays}
use Rattle.dalvik_act.proofs.arrays.measures.Goals as goal

pub returns-in-Some-clause-does : goal.returns-in-Some-clause-does
returns-in-Some-clause-does c = λ short n k h.
    let w = c.args.world.now in
    let outline : outline_of (shape_at (spots_of w) c.args.array) ≡ Some (c.in-Some.field-0-0, c.in-Some.length) = cc in
    c.sets.ensures.does n k h (world_of n w)
    ∙ measured_by n w (frame_of n c.args.frame.now) c.args.array c.args.to c.in-Some.field-0-0 c.in-Some.length c.length_word.result short outline c.length_word.ensures

pub returns-in-None-clause-does : goal.returns-in-None-clause-does
returns-in-None-clause-does c = λ short n k h.
    let w = c.args.world.now in
    let outline : outline_of (shape_at (spots_of w) c.args.array) ≡ None = cc in
    c.unless_null.ensures.acts n k (world_of n w) (frame_of n c.args.frame.now)
    ∙ unmeasured_by n w (frame_of n c.args.frame.now) c.args.array c.args.to outline

pub returns-in-Some-clause-safe : goal.returns-in-Some-clause-safe
returns-in-Some-clause-safe c = λ l size low k. c.sets.ensures.safe l size tt low k

pub returns-in-None-clause-safe : goal.returns-in-None-clause-safe
returns-in-None-clause-safe c = λ l size low k. stays l size c.args.frame.now c.unless_null.result k (c.unless_null.ensures.fine l size (λ e. tt))
