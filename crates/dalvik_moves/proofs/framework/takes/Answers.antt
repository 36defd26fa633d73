use Rattle.std.proofs.Common.{◌≡◌, ◌+◌, arith, subst}
use Rattle.std.specs.Prelude.{Some}
use Rattle.std.specs.Option.{option_map}
use Rattle.dalvik_lookups.specs.Views.{type_text}
use Rattle.dalvik_state.specs.Runs.{bodies_in, setting_in, IsNext}
use Rattle.dalvik_moves.proofs.Played.{there_low}
use Rattle.dalvik_moves.proofs.Turned.{taken_moves, taken_named, untaken}
use Rattle.dalvik_moves.proofs.framework.takes.Goals as goal

pub returns-in-Ok-clause-ok : goal.returns-in-Ok-clause-ok
returns-in-Ok-clause-ok c = λ o floats script steps first rest h is.
    let l = c.args.tables.now.lookups in
    let old = c.args.state.now in
    let mid = c.set_turn.new.state in
    let next = c.saturating_add.result in
    let low = there_low script old.next first h.next in
    let short = h.short in
    let more : next ≡ old.next + 1 = omega (arith, low, short) in
    let moving = taken_moves l o c.args.memo.now script steps old mid c.args.owes c.args.pending first rest next h c.set_turn.ensures more in
    subst (IsNext l steps script c.plays.new.memo c.plays.new.state c.in-Ok.event)
    (taken_named l o c.args.memo.now script steps old mid c.args.owes c.args.pending first rest next h c.set_turn.ensures (setting_in l o floats) (bodies_in l) (option_map (type_text l.types) c.args.owes))
    (c.in-Ok.ensures.ok o floats script steps first rest moving is)

pub returns-in-Err-clause-err : goal.returns-in-Err-clause-err
returns-in-Err-clause-err c = λ o script steps first rest h is.
    let l = c.args.tables.now.lookups in
    let old = c.args.state.now in
    let mid = c.set_turn.new.state in
    let next = c.saturating_add.result in
    let low = there_low script old.next first h.next in
    let short = h.short in
    let more : next ≡ old.next + 1 = omega (arith, low, short) in
    let moving = taken_moves l o c.args.memo.now script steps old mid c.args.owes c.args.pending first rest next h c.set_turn.ensures more in
    untaken l c.plays.new.memo steps old mid c.plays.new.state c.set_turn-in-Err.new.state c.args.owes c.args.pending (Some old.next) next h.top h.run.on c.set_turn.ensures
    (c.in-Err.ensures.err o script steps first rest moving is) c.set_turn-in-Err.ensures
