use Rattle.std.proofs.Common.{◌≡◌, ◌∙◌, [], ◌∷◌, true, refl, sym, subst}
use Rattle.std.specs.Prelude.{not, ◌||◌}
use Rattle.std.specs.Vec.{with_items}
use Rattle.call_targets.specs.declared.table.Targets.{Targets}
use Rattle.call_targets.specs.Adding.{Needs, Adds}
use Rattle.call_targets.specs.Beginning.{static_notes, is_empty, may_be_made_by}
use Rattle.call_targets.proofs.Adding.{needs_one, adds_then}
use Rattle.call_targets.proofs.Noted.{or_left, or_right}
use Rattle.call_targets.proofs.Turning.{turn_in, class_so}
use Rattle.call_targets.proofs.entered.begin_class.Goals as goal
use Rattle.call_targets.proofs.entered.begin_class.Goals.{then-enters-via-then-enters, then-enters-via-else-enters+then-may_be_made}

pub returns-then-enters : goal.returns-then-enters
returns-then-enters c = λ is.
    let p = c.args.at.now.program.now in
    let k = c.args.kept.now in
    let k1 = c.args.class.now in
    let o = c.initialiser_of-initialiser.result in
    let old = c.args.targets.now in
    let mid = c.enter_statics-enters.new.targets in
    let new : Targets = record { links = mid.links; leaves = mid.leaves; entered = mid.entered; begun = with_items mid.begun c.turn_on.new.marks } in
    let some : c.enter_statics-enters.result ≡ not (is_empty (static_notes k o 0 k1.methods)) = subst (λ l. c.enter_statics-enters.result ≡ not (is_empty (static_notes k o 0 l))) c.as_slice.ensures c.enter_statics-enters.ensures.is in
    let any : (not (is_empty (static_notes k o 0 k1.methods)) || may_be_made_by p k k1) ≡ true = elim c.then-enters.branch [
      | then-enters-via-then-enters w ↦ or_left (not (is_empty (static_notes k o 0 k1.methods))) (may_be_made_by p k k1) (sym some ∙ w.if-enters.true)
      | then-enters-via-else-enters+then-may_be_made w ↦ or_right (not (is_empty (static_notes k o 0 k1.methods))) (may_be_made_by p k k1) (sym w.may_be_made.ensures ∙ w.if-may_be_made.true)
    ] in
    class_so old new k p c.args.place k1 o true (c.initialiser_of-initialiser.ensures p is) (sym any)
    (adds_then (static_notes k o 0 k1.methods) (Needs c.args.place ∷ []) old mid new (subst (λ l. Adds (static_notes k o 0 l) old mid) c.as_slice.ensures c.enter_statics-enters.ensures.adds)
    (needs_one mid new c.args.place (turn_in mid.begun c.args.place c.args.place c.deref_mut.result.now c.turn_on.new.marks c.turn_on.ensures c.deref_mut.ensures.value c.deref_mut.ensures.len refl) refl refl refl))
