use Rattle.std.proofs.Common.{subst, [], ◌∷◌}
use Rattle.std.proofs.lemmas.List.{take_all}
use Rattle.call_graph.specs.Supers.{AddsSupers}
use Rattle.call_graph.proofs.Staying.{stays_then}
use Rattle.call_graph.proofs.Noting.{same_then}
use Rattle.call_graph.proofs.SuperCalls.{supers_at}
use Rattle.call_graph.specs.Least.{SuperFrom}
use Rattle.call_graph.proofs.Contained.{taken_in}
use Rattle.call_graph.proofs.Reaching.{adds_then, super_among}
use Rattle.call_graph.proofs.supers.add_supers.Goals as goal

pub loop-named-preserved : goal.loop-named-preserved
loop-named-preserved c = record {
  stays = stays_then c.args.out.now.items c.loop-named.out.items c.add_super_named.new.out.items c.loop-named.invariant.stays c.in_ok-add_super_named.ensures.stays;
  same = same_then c.args.notes.now c.loop-named.notes c.add_super_named.new.notes c.loop-named.invariant.same c.in_ok-add_super_named.ensures.same;
  are = λ is are. c.in_ok-add_super_named.ensures.are is (c.loop-named.invariant.are is are);
  finds = λ is fits are short. supers_at c.args.at.now.program.now c.args.caller.0 c.args.caller.1 c.args.names.now c.loop-named.named-index _ c.loop-named.out.items c.add_super_named.new.out.items
      (c.loop-named.invariant.finds is fits are short) c.loop-named-test.true c.in_ok-add_super_named.ensures.stays (c.in_ok-add_super_named.ensures.finds is fits (c.loop-named.invariant.are is are) short);
  only = λ is fits are short. let all = SuperFrom c.args.at.now.program.now c.args.caller.0 c.args.caller.1 c.args.names.now in
      adds_then all (SuperFrom c.args.at.now.program.now c.args.caller.0 c.args.caller.1 (_ ∷ [])) all c.args.out.now.items c.loop-named.out.items c.add_super_named.new.out.items (λ y f. f)
      (λ y f. super_among c.args.at.now.program.now c.args.caller.0 c.args.caller.1 c.args.names.now _ y (taken_in c.args.names.now c.loop-named.named-index _ c.loop-named-test.true) f)
      (c.loop-named.invariant.only is fits are short) (c.in_ok-add_super_named.ensures.only is fits (c.loop-named.invariant.are is are) short);
}

pub returns-clause-finds : goal.returns-clause-finds
returns-clause-finds c = λ is fits are short. subst (λ ns. AddsSupers c.args.at.now.program.now c.args.caller.0 c.args.caller.1 ns c.loop-named.out.items) (take_all c.loop-named.named-index c.args.names.now c.loop-named-test.false) (c.loop-named.invariant.finds is fits are short)
