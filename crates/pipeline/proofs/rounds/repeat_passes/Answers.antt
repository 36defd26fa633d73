use Rattle.std.proofs.Common.{◌≡◌, true, arith, rules}
use Rattle.pipeline.proofs.Repeating.{looked_once, looked_again, some_before}
use Rattle.pipeline.proofs.rounds.repeat_passes.Goals as goal

pub looks-init : goal.looks-init
looks-init c = record {
  looked = λ graph. looked_once c.args.admitted.now.methods.items c.args.all c.args.traced c.in_ok-left.left (c.in_ok-left.ensures graph);
  some = c.are_some-changing.ensures;
}

pub looks-preserved : goal.looks-preserved
looks-preserved c =
    let yes : c.looks.changing ≡ true = search rules in
    record {
      looked = λ graph. looked_again c.args.admitted.now.methods.items c.args.all c.args.traced c.looks.left c.in_ok-next.next c.and_then-left.result (c.looks.invariant.looked graph) (c.looks.invariant.some yes) c.in_ok-next.ensures
          c.and_then-left.ensures.traced c.and_then-left.ensures.removed c.and_then-left.ensures.folded c.and_then-left.ensures.rebound c.and_then-left.ensures.reread c.and_then-left.ensures.renamed;
      some = λ more. some_before c.looks.left.changes c.in_ok-next.next.changes c.and_then-left.result.changes c.and_then-left.ensures.removed c.and_then-left.ensures.folded c.and_then-left.ensures.rebound c.and_then-left.ensures.reread
          c.and_then-left.ensures.renamed (c.looks.invariant.some yes);
    }

pub looks-smaller : goal.looks-smaller
looks-smaller c = omega arith

pub returns : goal.returns
returns c = c.looks.invariant.looked
