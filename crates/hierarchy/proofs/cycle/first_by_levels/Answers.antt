use Rattle.std.proofs.Common.{◌≡◌, ◌∙◌, ◌<◌, ◌≤◌, length, subst, true, false, arith}
use Rattle.hierarchy.proofs.Circles.{decided, none_more}
use Rattle.hierarchy.proofs.cycle.first_by_levels.Goals as goal

pub returns-then-branch : goal.returns-then-branch
returns-then-branch c = λ few rising.
    let end : c.word-class-end.result ≡ length c.args.supers.now = c.word-class-end.ensures few in
    let short : c.loop-class.class < length c.args.supers.now = subst (λ n. c.loop-class.class < n) end c.loop-class-test.true in
    record {
      short = short;
      own = decided c.args.supers.now c.args.lists.now.rows c.loop-class.class c.in_ok-is_on_circle.field-0 true c.if-branch.true (c.in_ok-is_on_circle.ensures.is short rising c.loop-class.invariant.fair c.loop-class.invariant.size);
      first = c.loop-class.invariant.none few rising;
    }

pub loop-class-preserved : goal.loop-class-preserved
loop-class-preserved c = record {
  fair = c.in_ok-is_on_circle.ensures.fair c.loop-class.invariant.fair;
  size = c.in_ok-is_on_circle.ensures.size ∙ c.loop-class.invariant.size;
  none = λ few rising.
      let end : c.word-class-end.result ≡ length c.args.supers.now = c.word-class-end.ensures few in
      let short : c.loop-class.class < length c.args.supers.now = subst (λ n. c.loop-class.class < n) end c.loop-class-test.true in
      none_more c.args.supers.now c.args.lists.now.rows c.loop-class.class (c.loop-class.invariant.none few rising)
      (decided c.args.supers.now c.args.lists.now.rows c.loop-class.class c.in_ok-is_on_circle.field-0 false c.if-branch.false (c.in_ok-is_on_circle.ensures.is short rising c.loop-class.invariant.fair c.loop-class.invariant.size));
}

pub returns : goal.returns
returns c = λ few rising class l.
    let end : c.word-class-end.result ≡ length c.args.supers.now = c.word-class-end.ensures few in
    let done : c.word-class-end.result ≤ c.loop-class.class = c.loop-class-test.false in
    c.loop-class.invariant.none few rising class (omega (arith, l, end, done))
