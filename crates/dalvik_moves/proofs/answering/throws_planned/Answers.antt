use Rattle.std.proofs.Common.{◌≡◌, ℕ, ◌-◌, ◌∙◌, ap, length, refl, take}
use Rattle.dalvik_state.specs.States.{below_top}
use Rattle.dalvik_state.specs.declared.state.State.{State}
use Rattle.dalvik_moves.proofs.Thrown.{IsReadyToLand, landed, landing_fine, landing_flight, landing_on, landing_runs, room_exact, room_for, space_exact, thrown_fine, gives_in}
use Rattle.dalvik_moves.proofs.answering.throws_planned.Goals as goal

pub returns : goal.returns
returns c = λ l o memo script steps owes first rest d h given fine flight room.
    let old = c.args.state.now in
    let g = c.args.gifts in
    let f = c.args.flight in
    let mid : State = record old { world = c.give.new.world; stack = c.pop.new.self } in
    let stack : c.pop.new.self.items ≡ below_top old.stack.items = c.pop.ensures.rest ∙ ap (λ (n : ℕ). take (n - 1) old.stack.items) old.stack.ok.0 in
    let gives = c.give.ensures.given l given (room_exact old.world (length g.things.items) f room) (space_exact old.world (length g.things.items) f room) in
    let ready : IsReadyToLand l g old mid = record {
      given = gives;
      stack = stack;
      statuses = refl;
      next = refl;
      ended = refl;
    } in
    landed l o memo script steps old mid owes first rest g h ready d f c.land.new.state c.land.result flight.thrown
    (c.land.ensures l steps script h.run.right (landing_runs l o memo script steps old mid owes first rest g h ready) (landing_on l o memo script steps old mid owes first rest g h ready)
    (thrown_fine l mid d f flight.thrown (landing_fine l o memo script steps old mid owes first rest g h ready d fine)) (landing_flight l o memo script steps old mid owes first rest g h ready d f flight)
    (room_for old.world c.give.new.world mid f (length g.things.items) refl room c.give.ensures.room c.give.ensures.space))
