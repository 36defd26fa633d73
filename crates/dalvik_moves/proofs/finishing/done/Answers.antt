use Rattle.dalvik_moves.proofs.finishing.done.Goals as goal

pub returns-clause-done : goal.returns-clause-done
returns-clause-done c =
    let rest = c.set_pending.ensures.rest in
    record { world = rest.world; statuses = rest.statuses; stack = c.set_pending.ensures.stack; next = rest.next; ended = rest.ended }
