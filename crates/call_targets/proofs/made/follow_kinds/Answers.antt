use Rattle.call_targets.specs.Noting.{kind_notes}
use Rattle.call_targets.proofs.Adding.{adds_none, adds_at, adds_all}
use Rattle.call_targets.proofs.made.follow_kinds.Goals as goal

pub loop-kind-init : goal.loop-kind-init
loop-kind-init c = record { ready = λ r. r; adds = λ is r. adds_none c.args.targets.now }

pub loop-kind-preserved : goal.loop-kind-preserved
loop-kind-preserved c = record {
  ready = λ r. c.in_ok-follow_kind.ensures.ready (c.loop-kind.invariant.ready r);
  adds = λ is r. adds_at (kind_notes c.args.at.now.program.now c.args.tables.now.named c.args.tables.now.kept c.args.made.class c.args.made.outer) c.args.targets.now c.loop-kind.targets c.follow_kind.new.targets c.args.kinds.now c.loop-kind.kind-index _ (c.loop-kind.invariant.adds is r) c.loop-kind-test.true (c.in_ok-follow_kind.ensures.adds is (c.loop-kind.invariant.ready r));
}

pub returns-clause-adds : goal.returns-clause-adds
returns-clause-adds c = λ is r. adds_all (kind_notes c.args.at.now.program.now c.args.tables.now.named c.args.tables.now.kept c.args.made.class c.args.made.outer) c.args.targets.now c.loop-kind.targets c.args.kinds.now c.loop-kind.kind-index (c.loop-kind.invariant.adds is r) c.loop-kind-test.false
