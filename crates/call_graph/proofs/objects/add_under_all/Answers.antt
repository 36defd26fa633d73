use Rattle.call_graph.proofs.Contained.{taken_in}
use Rattle.call_graph.proofs.Noting.{under_begins, under_more, under_all}
use Rattle.call_graph.proofs.objects.add_under_all.Goals as goal

pub loop-kind-init : goal.loop-kind-init
loop-kind-init c = record {
  notes = λ is are. under_begins c.args.at.now.program.now c.args.notes.now c.args.class c.args.kinds.now c.args.out.now.items are;
  reached = λ o t is are under notes facts. record { notes = notes; facts = facts };
}

pub loop-kind-preserved : goal.loop-kind-preserved
loop-kind-preserved c = record {
  notes = λ is are. let so_far = c.loop-kind.invariant.notes is are in
      under_more c.args.at.now.program.now c.args.notes.now c.loop-kind.notes c.add_under.new.notes c.args.class c.args.kinds.now c.loop-kind.kind-index _ c.args.out.now.items c.loop-kind.out.items c.add_under.new.out.items
      so_far c.loop-kind-test.true (c.in_ok-add_under.ensures.notes is so_far.are);
  reached = λ o t is are under notes facts. let so_far = c.loop-kind.invariant.reached o t is are under notes facts in
      c.in_ok-add_under.ensures.reached o t is (c.loop-kind.invariant.notes is are).are (under _ (taken_in c.args.kinds.now c.loop-kind.kind-index _ c.loop-kind-test.true)) so_far.notes so_far.facts;
}

pub returns-clause-notes : goal.returns-clause-notes
returns-clause-notes c = λ is are. under_all c.args.at.now.program.now c.args.notes.now c.loop-kind.notes c.args.class c.args.kinds.now c.loop-kind.kind-index c.args.out.now.items c.loop-kind.out.items (c.loop-kind.invariant.notes is are) c.loop-kind-test.false
