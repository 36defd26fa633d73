use Rattle.std.proofs.Common.{sym, subst}
use Rattle.std.specs.Prelude.{Bool, ℕ, None}
use Rattle.std.specs.Option.{option_map}
use Rattle.dalvik_defs.specs.Moves.{goes, with_field}
use Rattle.dalvik_defs.specs.State.{World}
use Rattle.dalvik_state.specs.Drafts.{given_world}
use Rattle.dalvik_state.specs.Runs.{classes_in}
use Rattle.dalvik_state.specs.Views.{names_in, value_of, IsFine}
use Rattle.dalvik_state.specs.declared.gifts.Taken.{Taken}
use Rattle.dalvik_steps.specs.Reaching.{IsPut}
use Rattle.dalvik_moves.specs.Moving.{freed_in}
use Rattle.dalvik_moves.proofs.FieldMoves.{event_at, put_done, put_over}
use Rattle.dalvik_moves.proofs.Shuffled.{field_room_same}
use Rattle.dalvik_moves.proofs.touching.writes_ready.Goals as goal

pub returns-then-put_field : goal.returns-then-put_field
returns-then-put_field c = λ o memo script steps owes first rest k field h kept room i fine.
    let l = c.args.tables.now.lookups in
    let n = names_in l in
    let old = c.args.state.now in
    let g = c.args.gifts in
    let mid = c.gives.new.world in
    let new = c.put_field.new.world in
    let x = option_map (λ (t : Taken). value_of n t.datum) c.args.to.1 in
    let v = value_of n c.args.datum in
    let a = c.gives.ensures.given l i room in
    let there = subst (λ (m : ℕ). IsFine n m c.args.datum) (sym a.spots) fine in
    let put = c.put_field.ensures o k field h.run.right (field_room_same old.world mid c.gives.ensures.fields room.field) a.sound kept there in
    let named = subst (λ (w : World). IsPut l mid new c.put_field.result (with_field w k x v)) a.world put in
    put_done l o memo script steps old owes first rest h g mid new a (with_field (given_world n old.world g) k x v) (subst (λ (b : Bool). IsPut l mid new b (with_field (given_world n old.world g) k x v)) c.if-put_field.true named) c.done.new.state c.done.ensures.done

pub returns-else-put_field : goal.returns-else-put_field
returns-else-put_field c = λ o memo script steps owes first rest k field h kept room i fine.
    let l = c.args.tables.now.lookups in
    let n = names_in l in
    let old = c.args.state.now in
    let g = c.args.gifts in
    let mid = c.gives.new.world in
    let new = c.put_field.new.world in
    let x = option_map (λ (t : Taken). value_of n t.datum) c.args.to.1 in
    let v = value_of n c.args.datum in
    let a = c.gives.ensures.given l i room in
    let there = subst (λ (m : ℕ). IsFine n m c.args.datum) (sym a.spots) fine in
    let put = c.put_field.ensures o k field h.run.right (field_room_same old.world mid c.gives.ensures.fields room.field) a.sound kept there in
    let named = subst (λ (w : World). IsPut l mid new c.put_field.result (with_field w k x v)) a.world put in
    event_at l steps script _ c.end.new.self None (goes (with_field (given_world n old.world g) k x v) (classes_in l old) (freed_in l script old) rest) c.end.ensures
    (put_over l o memo script steps old owes first rest h g mid new a (with_field (given_world n old.world g) k x v) (subst (λ (b : Bool). IsPut l mid new b (with_field (given_world n old.world g) k x v)) c.if-put_field.false named))
