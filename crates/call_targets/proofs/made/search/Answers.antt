use Rattle.std.proofs.Common.{◌≤◌, Bool, List, length, subst, sym}
use Rattle.class_defs.proofs.WellFormed.{few_classes}
use Rattle.call_targets.specs.Adding.{AddsBy, IsBlank}
use Rattle.call_targets.specs.Following.{OfPlaces}
use Rattle.call_targets.proofs.Ending.{noted_all, targeted}
use Rattle.call_targets.proofs.Few.{few_methods}
use Rattle.call_targets.proofs.made.search.Goals as goal

pub returns : goal.returns
returns c = λ fits is.
    let p = c.args.at.now.program.now in
    let t = c.in_ok-tables.tables in
    let few = few_methods p fits in
    let small : c.len-methods.result ≤ 65536 = subst (λ n. n ≤ 65536) (sym c.len-methods.ensures) few in
    let blank : IsBlank (length p.methods) (length p.classes) c.in_ok-targets.targets =
    subst (λ n. IsBlank n (length p.classes) c.in_ok-targets.targets) c.len-methods.ensures (subst (λ n. IsBlank c.len-methods.result n c.in_ok-targets.targets) c.len-classes.ensures (c.in_ok-targets.ensures small)) in
    let are = c.in_ok-tables.ensures fits in
    targeted p c.args.outside.now c.args.live.now t fits is.of.once are c.follow_made.new.targets
    (noted_all p t c.args.live.now.made.items c.in_ok-targets.targets c.note_leaving.new.targets c.begin.new.targets c.follow_made.new.targets blank (c.note_leaving.ensures is.of (few_methods p fits)) (c.begin.ensures (few_classes p fits) is)
    (subst (λ (m : List Bool). AddsBy (OfPlaces p t m (length p.classes)) c.begin.new.targets c.follow_made.new.targets) c.as_slice.ensures.value (c.in_ok-follow_made.ensures is.of (few_classes p fits) are.object)))
