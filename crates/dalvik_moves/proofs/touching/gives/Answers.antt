use Rattle.std.proofs.Common.{◌∙◌, ap, sym, subst}
use Rattle.dalvik_state.specs.Giving.{AreGiven}
use Rattle.dalvik_moves.proofs.Laid.{given_aside, given_back}
use Rattle.dalvik_moves.proofs.touching.gives.Goals as goal

pub returns-clause-given : goal.returns-clause-given
returns-clause-given c = λ l i room.
    let w = c.args.world.now in
    let g = c.args.gifts in
    let z = record w { fields = c.replace-fields.new.dest } in
    let w1 = c.give.new.world in
    let empty = ap (λ m. m.entries) c.replace-fields.ensures.after ∙ c.new.ensures.empty in
    subst (λ m. AreGiven l g w (record w1 { fields = m })) (sym c.replace-fields.ensures.value)
    (given_back l w z w1 g i (c.give.ensures.given l (given_aside l w z w1 g i empty) (record { room = room.room.room }) (record { space = room.space.space })))
