use Rattle.std.proofs.Common.{refl, sym}
use Rattle.std.specs.Vec.{with_items}
use Rattle.call_targets.specs.declared.table.Targets.{Targets}
use Rattle.program_model.specs.Lookups.{method_at}
use Rattle.call_targets.proofs.Adding.{leaves_one}
use Rattle.call_targets.proofs.Turning.{turn_in, link_none}
use Rattle.call_targets.proofs.made.link_found.Goals as goal

pub returns-in-None : goal.returns-in-None
returns-in-None c =
    let old = c.args.targets.now in
    let call = c.args.call in
    let new : Targets = record { links = old.links; leaves = with_items old.leaves c.turn_on.new.marks; entered = old.entered; begun = old.begun } in
    link_none old new call (method_at c.args.at.now.program.now c.args.found) (sym c.in-None.ensures)
    (leaves_one old new call (turn_in old.leaves call call c.deref_mut.result.now c.turn_on.new.marks c.turn_on.ensures c.deref_mut.ensures.value c.deref_mut.ensures.len refl) refl refl refl)
