use Rattle.call_graph.proofs.Calling.{open_at}
use Rattle.call_graph.proofs.Contained.{each_all, taken_in}
use Rattle.call_graph.proofs.Reaching.{adds_then}
use Rattle.call_graph.specs.Least.{FoundCommon}
use Rattle.call_graph.proofs.Staying.{stays_then}
use Rattle.call_graph.specs.Objects.{FindsOpen}
use Rattle.call_graph.proofs.objects.add_common.Goals as goal

pub loop-key-preserved : goal.loop-key-preserved
loop-key-preserved c = record {
  stays = stays_then c.args.out.now.items c.loop-key.out.items c.add_found_open.new.out.items c.loop-key.invariant.stays c.in_ok-add_found_open.ensures.stays;
  common = λ is. open_at c.args.at.now.program.now c.args.at.now.hierarchy.now c.args.shut.now c.args.class c.args.keys.now c.loop-key.key-index _ c.loop-key.out.items c.add_found_open.new.out.items (c.loop-key.invariant.common is) c.in_ok-add_found_open.ensures.stays c.loop-key-test.true (c.in_ok-add_found_open.ensures.common is);
  only = λ is common. let kept = FoundCommon c.args.at.now.program.now c.args.shut.now c.args.class in
      adds_then kept kept kept c.args.out.now.items c.loop-key.out.items c.add_found_open.new.out.items (λ y f. f) (λ y f. f) (c.loop-key.invariant.only is common)
      (c.in_ok-add_found_open.ensures.only is (common _ (taken_in c.args.keys.now c.loop-key.key-index _ c.loop-key-test.true)));
}

pub returns-clause-common : goal.returns-clause-common
returns-clause-common c = λ is. each_all (λ key. FindsOpen c.args.at.now.program.now c.args.at.now.hierarchy.now c.args.shut.now c.args.class key c.loop-key.out.items) c.args.keys.now c.loop-key.key-index c.loop-key-test.false (c.loop-key.invariant.common is)
