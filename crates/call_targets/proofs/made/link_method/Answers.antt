use Rattle.std.proofs.Common.{◌∙◌, Some, refl, sym}
use Rattle.std.specs.Vec.{with_items}
use Rattle.call_targets.specs.declared.table.Targets.{Targets}
use Rattle.call_targets.proofs.Adding.{leaves_one}
use Rattle.call_targets.proofs.Turning.{turn_in, link_empty}
use Rattle.call_targets.proofs.made.link_method.Goals as goal

pub returns-else-is_some : goal.returns-else-is_some
returns-else-is_some c =
    let old = c.args.targets.now in
    let m = c.args.method.now in
    let call = c.args.call in
    let new : Targets = record { links = old.links; leaves = with_items old.leaves c.turn_on.new.marks; entered = old.entered; begun = old.begun } in
    link_empty old new call (Some m) m refl (sym c.is_some.ensures ∙ c.if-is_some.false)
    (leaves_one old new call (turn_in old.leaves call call c.deref_mut.result.now c.turn_on.new.marks c.turn_on.ensures c.deref_mut.ensures.value c.deref_mut.ensures.len refl) refl refl refl)
