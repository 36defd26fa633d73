use Rattle.std.proofs.Common.{take, ◌∙◌, sym, ap}
use Rattle.std.specs.Option.{option_copied}
use Rattle.program_model.proofs.Apart.{bound_behind, bound_aside, behind_is_new, passes}
use Rattle.program_model.proofs.distinct.all_differ.Goals as goal
use Rattle.program_model.proofs.distinct.all_differ.Goals.{then-is_behind, else-is_behind+else-is_among}

pub loop-place-preserved : goal.loop-place-preserved
loop-place-preserved g c =
    let key = g.T.Entry.key in
    let before = option_copied c.loop-place.greatest in
    let xs = c.args.items.now in
    let x = c.index-items-place.result in
    let inside = c.loop-place-test.true in
    let is = c.index-items-place.is in
    elim c.if-is_behind.branch [
      | then-is_behind w ↦ record {
        same = sym (passes key xs c.loop-place.place x inside is (behind_is_new key before x (take c.loop-place.place xs) c.loop-place.invariant.bound (sym c.is_behind.ensures ∙ w.if-is_behind.true))) ∙ c.loop-place.invariant.same;
        bound = bound_behind key before (option_copied c.if-is_behind.greatest) x xs c.loop-place.place inside is (ap option_copied w.greatest-is) c.loop-place.invariant.bound (sym c.is_behind.ensures ∙ w.if-is_behind.true);
      }
      | else-is_behind+else-is_among w ↦ record {
        same = sym (passes key xs c.loop-place.place x inside is (sym w.is_among.ensures ∙ w.if-is_among.false)) ∙ c.loop-place.invariant.same;
        bound = bound_aside key before (option_copied c.if-is_behind.greatest) x xs c.loop-place.place inside is (ap option_copied w.greatest-is) c.loop-place.invariant.bound (sym c.is_behind.ensures ∙ w.if-is_behind.false);
      }
    ]
