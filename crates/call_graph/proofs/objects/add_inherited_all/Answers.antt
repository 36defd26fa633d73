use Rattle.std.proofs.Common.{refl, subst}
use Rattle.std.proofs.lemmas.List.{take_all}
use Rattle.call_graph.proofs.Calling.{inherits_at}
use Rattle.call_graph.proofs.Contained.{AtPlace, at_place, get_in}
use Rattle.call_graph.proofs.Reaching.{adds_then}
use Rattle.call_graph.specs.Least.{InheritedBy, InheritedFrom}
use Rattle.call_graph.proofs.Staying.{stays_then}
use Rattle.call_graph.specs.Objects.{Inherits}
use Rattle.call_graph.proofs.objects.add_inherited_all.Goals as goal

pub loop-method-preserved : goal.loop-method-preserved
loop-method-preserved c = record {
  stays = stays_then c.args.out.now.items c.loop-method.out.items c.add_inherited.new.out.items c.loop-method.invariant.stays c.in_ok-add_inherited.ensures.stays;
  inherits = λ is. inherits_at c.args.at.now.program.now c.args.shut.now c.args.class c.args.above c.args.methods.now c.loop-method.method-index c.method-item.result c.loop-method.out.items c.add_inherited.new.out.items
      (at_place c.args.methods.now c.args.methods.now c.loop-method.method-index c.method-item.result refl c.method-item.is c.loop-method-test.true) (c.loop-method.invariant.inherits is) c.in_ok-add_inherited.ensures.stays (c.in_ok-add_inherited.ensures.inherits is);
  only = λ is named.
      let at : AtPlace c.args.methods.now c.loop-method.method-index c.method-item.result = at_place c.args.methods.now c.args.methods.now c.loop-method.method-index c.method-item.result refl c.method-item.is c.loop-method-test.true in
      let inside = get_in c.args.methods.now c.loop-method.method-index _ at.got in
      let all = InheritedFrom c.args.at.now.program.now c.args.shut.now c.args.class c.args.above c.args.methods.now in
      adds_then all (InheritedBy c.args.at.now.program.now c.args.shut.now c.args.class c.args.above _) all c.args.out.now.items c.loop-method.out.items c.add_inherited.new.out.items (λ y f. f) (λ y f. record { method = _; is_in = inside; by = f }) (c.loop-method.invariant.only is named)
      (c.in_ok-add_inherited.ensures.only is (named _ inside));
}

pub returns-clause-inherits : goal.returns-clause-inherits
returns-clause-inherits c = λ is. subst (λ ms. Inherits c.args.at.now.program.now c.args.shut.now c.args.class c.args.above ms c.loop-method.out.items) (take_all c.loop-method.method-index c.args.methods.now c.loop-method-test.false) (c.loop-method.invariant.inherits is)
