use Rattle.std.proofs.Common.{◌≡◌, ◌∙◌, refl, sym}
use Rattle.std.specs.Vec.{with_items}
use Rattle.class_defs.specs.Finding.{Nothing, Finds, finds_at}
use Rattle.call_targets.specs.declared.bound.Target.TheVariants as target
use Rattle.call_targets.specs.declared.table.Targets.{Targets}
use Rattle.call_targets.specs.Bound.{target_found}
use Rattle.call_targets.proofs.Adding.{leaves_one}
use Rattle.call_targets.proofs.Turning.{turn_in, one_found, nothing_found, call_found}
use Rattle.call_targets.proofs.made.link_named.Goals as goal

pub returns-in_ok-link_found-in-One-clause-adds : goal.returns-in_ok-link_found-in-One-clause-adds
returns-in_ok-link_found-in-One-clause-adds c = λ is r q e.
    let p = c.args.at.now.program.now in
    let found : target.One c.in-One.found ≡ target_found (finds_at p c.args.class q.name q.proto) = sym c.in-One.is ∙ c.in_ok-found.ensures.is is r q.name q.proto (c.key_of_method-key.ensures.is p q e) in
    call_found c.args.targets.now c.link_found.new.targets p c.args.class c.args.call q (Finds c.in-One.found) e (one_found (finds_at p c.args.class q.name q.proto) c.in-One.found found) c.in_ok-link_found-in-One.ensures

pub returns-in-Nothing-clause-adds : goal.returns-in-Nothing-clause-adds
returns-in-Nothing-clause-adds c = λ is r q e.
    let p = c.args.at.now.program.now in
    let old = c.args.targets.now in
    let call = c.args.call.number in
    let new : Targets = record { links = old.links; leaves = with_items old.leaves c.turn_on.new.marks; entered = old.entered; begun = old.begun } in
    let found : target.Nothing ≡ target_found (finds_at p c.args.class q.name q.proto) = sym c.in-Nothing.is ∙ c.in_ok-found.ensures.is is r q.name q.proto (c.key_of_method-key.ensures.is p q e) in
    call_found old new p c.args.class c.args.call q Nothing e (nothing_found (finds_at p c.args.class q.name q.proto) found)
    (leaves_one old new call (turn_in old.leaves call call c.deref_mut.result.now c.turn_on.new.marks c.turn_on.ensures c.deref_mut.ensures.value c.deref_mut.ensures.len refl) refl refl refl)
