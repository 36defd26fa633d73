use Rattle.std.proofs.Common.{◌≡◌, ◌∙◌, ◌+◌, ◌≤◌, ◌++◌, ◌∷◌, [], List, ap, arith, subst, sym}
use Rattle.std.specs.Prelude.{vec_capacity, vec_len, refl, None}
use Rattle.dalvik_state.specs.Giving.{AreGiven}
use Rattle.dalvik_state.specs.States.{pending_top}
use Rattle.dalvik_state.specs.declared.state.Waiting.{Waiting}
use Rattle.dalvik_state.specs.declared.state.Waiting.TheVariants as waiting
use Rattle.dalvik_steps.proofs.Undone.{undone, undone_world}
use Rattle.dalvik_moves.proofs.Framed.{frame_on, gifts_from, gifts_stay}
use Rattle.dalvik_moves.proofs.Moved.{on_err}
use Rattle.dalvik_moves.proofs.entering.enters_frame.Goals as goal

pub returns-in_err-reserve-clause-err : goal.returns-in_err-reserve-clause-err
returns-in_err-reserve-clause-err c = λ l steps run on. on_err _ _ (undone_world l steps c.args.state.now c.reserve.new.world c.reserve.ensures.same run on)

pub returns-in_err-reserve-2-clause-err : goal.returns-in_err-reserve-2-clause-err
returns-in_err-reserve-2-clause-err c = λ l steps run on.
    let old = c.args.state.now in
    on_err _ _ (undone l steps old (record old { world = c.reserve.new.world; stack = c.reserve-2.new.self }) run on (record { world = c.reserve.ensures.same; statuses = refl; stack = c.reserve-2.ensures.items; next = refl; ended = refl }))

pub returns-clause-ok : goal.returns-clause-ok
returns-clause-ok c = λ l o memo script steps owes first rest h given sound start.
    let old = c.args.state.now in
    let g = c.args.gifts in
    let mid = c.reserve.new.world in
    let room = c.in_ok-reserve.ensures.room.room in
    let space = c.in_ok-reserve.ensures.space.space in
    let gives = c.give.ensures.given l (gifts_stay l g old.world mid c.reserve.ensures.same given) (record { room = omega (arith, room) }) (record { space = omega (arith, space) }) in
    let is = c.done.ensures.done in
    let ahead = c.in_ok-reserve-2.ensures.ok in
    let long = c.done.ensures.len in
    let wide = c.done.ensures.capacity in
    let holds : vec_len c.done.new.state.stack + 1 ≤ vec_capacity c.done.new.state.stack = omega (arith, ahead, long, wide) in
    let stack : c.stands_on.new.stack.items ≡ pending_top None old.stack.items ++ waiting.Method c.args.frame ∷ [] =
    c.stands_on.ensures holds ∙ ap (λ (ws : List Waiting). ws ++ waiting.Method c.args.frame ∷ []) (is.stack ∙ ap (pending_top None) c.reserve-2.ensures.items) in
    frame_on l o memo script steps old owes first rest h g c.args.frame (record c.done.new.state { stack = c.stands_on.new.stack }) sound start (record {
      given = subst (AreGiven l g old.world) (sym is.world) (gifts_from l g old.world mid c.give.new.world c.reserve.ensures.same gives);
      stack = stack;
      statuses = is.statuses;
      next = is.next;
      ended = is.ended;
    })
