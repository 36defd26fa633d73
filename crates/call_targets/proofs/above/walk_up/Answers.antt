use Rattle.std.proofs.Common.{◌∙◌, ap, subst, refl, sym}
use Rattle.std.specs.Prelude.{slice_index_or, true}
use Rattle.call_graph.specs.Above.{AllFrom}
use Rattle.call_targets.specs.Walking.{IsWalking}
use Rattle.call_targets.proofs.Climbing.{walk_begins, walk_on, walk_ends, from_on}
use Rattle.call_targets.proofs.Contained.{none_in}
use Rattle.call_targets.proofs.above.walk_up.Goals as goal

pub loop-one-init : goal.loop-one-init
loop-one-init c = record {
  size = refl;
  met = λ n h. h;
  from = λ is long x y f. (f, subst (AllFrom c.args.at.now.program.now x y) (sym c.new-out.ensures.items) (λ n i. absurd (none_in n i)));
  walking = λ is waits. subst (IsWalking c.args.at.now.program.now c.args.marks.now) (sym c.new-out.ensures.items) (walk_begins c.args.at.now.program.now c.args.marks.now waits);
}

pub loop-one-preserved : goal.loop-one-preserved
loop-one-preserved c = record {
  size = c.in_ok-mark_above.ensures.swells.0 ∙ c.pop.ensures.size ∙ c.loop-one.invariant.size;
  met = λ n h. c.in_ok-mark_above.ensures.keeps.reached n (ap (λ v. slice_index_or v.items n true) c.pop.ensures.pops.same ∙ c.loop-one.invariant.met n h);
  from = λ is long x y f.
      let so_far = c.loop-one.invariant.from is long x y f in
      let step = from_on c.args.at.now.program.now c.loop-one.marks c.pop.new.self c.mark_above.new.marks c.loop-one.out.items c.in-Some.one x y (c.in_ok-mark_above.ensures.swells.0 ∙ c.pop.ensures.size ∙ c.loop-one.invariant.size ∙ long) so_far.0 so_far.1 c.in-Some.ensures.pops (c.in_ok-mark_above.ensures.from is) in
      (step.0, subst (AllFrom c.args.at.now.program.now x y) (sym c.in_ok-push.ensures.items) step.1);
  walking = λ is waits.
      subst (IsWalking c.args.at.now.program.now c.mark_above.new.marks) (sym c.in_ok-push.ensures.items)
      (walk_on c.args.at.now.program.now c.loop-one.marks c.pop.new.self c.mark_above.new.marks c.loop-one.out.items c.in-Some.one (c.loop-one.invariant.walking is waits) c.in-Some.ensures.pops c.in_ok-mark_above.ensures.keeps (c.in_ok-mark_above.ensures.marked is));
}

pub returns-clause-walked : goal.returns-clause-walked
returns-clause-walked c = λ is waits. walk_ends c.args.at.now.program.now c.loop-one.marks c.pop.new.self c.loop-one.out.items (c.loop-one.invariant.walking is waits) c.in_default.ensures.pops

pub returns-clause-from : goal.returns-clause-from
returns-clause-from c = λ is long x y f. (c.loop-one.invariant.from is long x y f).1
