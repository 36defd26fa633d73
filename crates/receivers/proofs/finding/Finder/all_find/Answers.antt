use Rattle.std.proofs.Common.{◌≡◌, ◌∙◌, slice_index, ap, sym}
use Rattle.receivers.specs.Receiving.{found_by, is_at}
use Rattle.receivers.proofs.Loops.{all_broken, all_more, at_index}
use Rattle.receivers.proofs.finding.Finder.all_find.Goals as goal

pub loop-class-preserved : goal.loop-class-preserved
loop-class-preserved c = record {
  ready = λ r. c.find.ensures.ready (c.loop-class.invariant.ready r);
  found = λ f r q n s.
      let p = c.args.self.now.program.now in
      let xs = c.args.classes.now in
      let i = c.loop-class.class-index in
      let at = c.args.target in
      let e : c.in_ok-found.found ≡ found_by p q (slice_index xs i) =
      c.in_ok-found.ensures.is f (c.loop-class.invariant.ready r) q n (s i (slice_index xs i) (at_index xs i c.loop-class-test.true)) in
      all_more (λ d. is_at at (found_by p q d)) xs i c.loop-class-test.true (c.loop-class.invariant.found f r q n s) (ap (is_at at) (sym e) ∙ (sym c.is_at.ensures ∙ c.if-not-is_at.false));
}

pub returns-then-not-is_at-clause-is : goal.returns-then-not-is_at-clause-is
returns-then-not-is_at-clause-is c = λ f r q n s.
    let p = c.args.self.now.program.now in
    let xs = c.args.classes.now in
    let i = c.loop-class.class-index in
    let at = c.args.target in
    let e : c.in_ok-found.found ≡ found_by p q (slice_index xs i) =
    c.in_ok-found.ensures.is f (c.loop-class.invariant.ready r) q n (s i (slice_index xs i) (at_index xs i c.loop-class-test.true)) in
    sym (all_broken (λ d. is_at at (found_by p q d)) xs i c.loop-class-test.true (ap (is_at at) (sym e) ∙ (sym c.is_at.ensures ∙ c.if-not-is_at.true)))
