use Rattle.call_graph.proofs.Calling.{of_at}
use Rattle.call_graph.proofs.Contained.{each_all, taken_in}
use Rattle.call_graph.proofs.Reaching.{adds_then}
use Rattle.call_graph.specs.Least.{Inherited, InheritedAmong}
use Rattle.call_graph.proofs.Staying.{stays_then}
use Rattle.call_graph.specs.Objects.{InheritsOf}
use Rattle.call_graph.proofs.objects.add_all_inherited.Goals as goal

pub loop-kind-preserved : goal.loop-kind-preserved
loop-kind-preserved c = record {
  stays = stays_then c.args.out.now.items c.loop-kind.out.items c.add_inherited_of.new.out.items c.loop-kind.invariant.stays c.in_ok-add_inherited_of.ensures.stays;
  inherits = λ is. of_at c.args.at.now.program.now c.args.shut.now c.args.class c.args.kinds.now c.loop-kind.kind-index _ c.loop-kind.out.items c.add_inherited_of.new.out.items (c.loop-kind.invariant.inherits is) c.in_ok-add_inherited_of.ensures.stays c.loop-kind-test.true (c.in_ok-add_inherited_of.ensures.inherits is);
  only = λ is formed. let all = InheritedAmong c.args.at.now.program.now c.args.shut.now c.args.class c.args.kinds.now in
      adds_then all (Inherited c.args.at.now.program.now c.args.shut.now c.args.class _) all c.args.out.now.items c.loop-kind.out.items c.add_inherited_of.new.out.items (λ y f. f)
      (λ y f. record { kind = _; is_in = taken_in c.args.kinds.now c.loop-kind.kind-index _ c.loop-kind-test.true; from = f }) (c.loop-kind.invariant.only is formed) (c.in_ok-add_inherited_of.ensures.only is formed);
}

pub returns-clause-inherits : goal.returns-clause-inherits
returns-clause-inherits c = λ is. each_all (λ kind. InheritsOf c.args.at.now.program.now c.args.shut.now c.args.class kind c.loop-kind.out.items) c.args.kinds.now c.loop-kind.kind-index c.loop-kind-test.false (c.loop-kind.invariant.inherits is)
