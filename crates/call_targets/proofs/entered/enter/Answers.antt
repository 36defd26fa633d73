use Rattle.std.proofs.Common.{◌∙◌, refl, sym}
use Rattle.std.specs.Vec.{with_items}
use Rattle.call_targets.specs.declared.table.Targets.{Targets}
use Rattle.call_targets.proofs.Adding.{enters_one}
use Rattle.call_targets.proofs.Turning.{turn_in, enters_so}
use Rattle.call_targets.proofs.entered.enter.Goals as goal

pub returns-then-is_some : goal.returns-then-is_some
returns-then-is_some c =
    let old = c.args.targets.now in
    let m = c.args.method.now in
    let new : Targets = record { links = old.links; leaves = old.leaves; entered = with_items old.entered c.turn_on.new.marks; begun = old.begun } in
    enters_so old new m (sym c.is_some.ensures ∙ c.if-is_some.true)
    (enters_one old new m.name (turn_in old.entered m.name m.name c.deref_mut.result.now c.turn_on.new.marks c.turn_on.ensures c.deref_mut.ensures.value c.deref_mut.ensures.len refl) refl refl refl)
