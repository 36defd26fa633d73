use Rattle.std.proofs.Common.{refl}
use Rattle.dalvik_steps.proofs.Born.{made_from}
use Rattle.dalvik_steps.proofs.Reserved.{items_sound}
use Rattle.dalvik_steps.proofs.objects.makes_shown.Goals as goal

pub returns-clause-made : goal.returns-clause-made
returns-clause-made c = λ w fine.
    let l = c.args.tables.now.lookups in
    let old = c.args.state.now.world in
    let mid = c.reserve_exposed.new.world in
    let same = c.in_ok-reserve_exposed.ensures.same in
    let made = c.in_ok-reference.ensures.made l c.in_ok-reserve_exposed.ensures.room (items_sound l old mid same w) fine c.in_ok-text.ensures in
    record {
      shown = c.in_ok-reference.value;
      is = refl;
      made = made_from l old mid c.add_shown.new.world c.args.kind c.in_ok-reference.reference c.in_ok-reference.value same made;
      stack = refl;
      statuses = refl;
      next = refl;
      ended = refl;
    }
