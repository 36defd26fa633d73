use Rattle.std.proofs.Common.{[], ◌∷◌, true, false, refl}
use Rattle.std.specs.Vec.{with_items}
use Rattle.call_targets.specs.declared.table.Targets.{Targets}
use Rattle.call_targets.specs.Adding.{Leaves}
use Rattle.call_targets.specs.Targeted.{call_at}
use Rattle.call_targets.proofs.Adding.{leaves_one, adds_then}
use Rattle.call_targets.proofs.Turning.{number_is, turn_in, name_two, name_one}
use Rattle.call_targets.proofs.leaving.note_name.Goals as goal

pub returns-then-admits_any : goal.returns-then-admits_any
returns-then-admits_any c = λ is few.
    let p = c.args.at.now.program.now in
    let m = c.args.method in
    let old = c.args.targets.now in
    let mid : Targets = record { links = old.links; leaves = with_items old.leaves c.turn_on.new.marks; entered = old.entered; begun = old.begun } in
    let new : Targets = record { links = old.links; leaves = with_items (with_items old.leaves c.turn_on.new.marks) c.turn_on-then-admits_any.new.marks; entered = old.entered; begun = old.begun } in
    name_two old new p m c.args.name.now c.admits_any.result (c.admits_any.ensures is) c.if-admits_any.true
    (adds_then (Leaves (call_at m true) ∷ []) (Leaves (call_at m false) ∷ []) old mid new
    (leaves_one old mid (call_at m true) (turn_in old.leaves (call_at m true) c.call_number.result c.deref_mut.result.now c.turn_on.new.marks c.turn_on.ensures c.deref_mut.ensures.value c.deref_mut.ensures.len (number_is m true c.call_number.result few c.call_number.ensures)) refl refl refl)
    (leaves_one mid new (call_at m false) (turn_in mid.leaves (call_at m false) c.call_number-then-admits_any.result c.deref_mut-then-admits_any.result.now c.turn_on-then-admits_any.new.marks c.turn_on-then-admits_any.ensures c.deref_mut-then-admits_any.ensures.value c.deref_mut-then-admits_any.ensures.len (number_is m false c.call_number-then-admits_any.result few c.call_number-then-admits_any.ensures)) refl refl refl))

pub returns-else-admits_any : goal.returns-else-admits_any
returns-else-admits_any c = λ is few.
    let p = c.args.at.now.program.now in
    let m = c.args.method in
    let old = c.args.targets.now in
    let new : Targets = record { links = old.links; leaves = with_items old.leaves c.turn_on.new.marks; entered = old.entered; begun = old.begun } in
    name_one old new p m c.args.name.now c.admits_any.result (c.admits_any.ensures is) c.if-admits_any.false
    (leaves_one old new (call_at m true) (turn_in old.leaves (call_at m true) c.call_number.result c.deref_mut.result.now c.turn_on.new.marks c.turn_on.ensures c.deref_mut.ensures.value c.deref_mut.ensures.len (number_is m true c.call_number.result few c.call_number.ensures)) refl refl refl)
