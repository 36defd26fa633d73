use Rattle.std.proofs.Common.{◌≤◌, ◌<◌, ◌-◌, length, Some, arith}
use Rattle.class_defs.specs.Places.{super_place, chain_from}
use Rattle.hierarchy.proofs.Chains.{chain_on, chain_done, chain_ends}
use Rattle.hierarchy.proofs.build.Hierarchy.chain.Goals as goal
use Rattle.hierarchy.proofs.build.Hierarchy.chain.Goals.{else-loop-done-test, then-loop-done-test+in-None}

pub loop-done-preserved : goal.loop-done-preserved
loop-done-preserved c = λ p h.
    let count = h.count in
    let lt : c.loop-done.done < length p.classes = omega (arith, c.len-done-end.ensures, count) in
    chain_on (super_place p) c.loop-done.chain.items c.push.new.self.items (chain_from (super_place p) (length p.classes) (Some c.args.class)) (length p.classes) c.loop-done.done c.in-Some.one c.loop-done.at c.super_of-at.result
    lt c.in-Some.is c.in_ok-push.ensures.items (c.super_of-at.ensures.is p h) (c.loop-done.invariant p h)

pub returns : goal.returns
returns c = λ p h. elim c.loop-done-test.branch [
  | else-loop-done-test w ↦
      let count = h.count in
      let le : length p.classes ≤ c.loop-done.done = omega (arith, c.len-done-end.ensures, count) in
      chain_done (super_place p) c.loop-done.chain.items (chain_from (super_place p) (length p.classes) (Some c.args.class)) (length p.classes) c.loop-done.done c.loop-done.at le (c.loop-done.invariant p h)
  | then-loop-done-test+in-None w ↦
      chain_ends (super_place p) c.loop-done.chain.items (chain_from (super_place p) (length p.classes) (Some c.args.class)) (length p.classes - c.loop-done.done) c.loop-done.at w.in-None.is (c.loop-done.invariant p h)
]
