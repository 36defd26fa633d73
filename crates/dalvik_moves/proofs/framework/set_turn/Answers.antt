use Rattle.std.specs.Prelude.{refl}
use Rattle.dalvik_moves.proofs.framework.set_turn.Goals as goal

pub returns : goal.returns
returns c =
    let rest = c.set_pending.ensures.rest in
    record { world = rest.world; statuses = rest.statuses; stack = c.set_pending.ensures.stack; next = refl; ended = rest.ended }
