use Rattle.std.proofs.Common.{◌∙◌, ◌++◌, ap, arith}
use Rattle.hierarchy.proofs.Listed.{others_to, added_other, same_end}
use Rattle.hierarchy.proofs.queries.add_others.Goals as goal

pub loop-number-preserved : goal.loop-number-preserved
loop-number-preserved c = record {
  are = added_other c.args.places.now c.args.class c.args.range.first c.loop-number.number c.count_at.result c.args.out.now.items c.loop-number.out.items c.add_other.new.out.items c.loop-number.auto.number c.count_at.ensures c.in_ok-add_other.ensures c.loop-number.invariant.are;
  none = λ e. absurd (let s = c.loop-number-test.true in let l = c.loop-number.auto.number in omega (arith, e, s, l));
}

pub returns : goal.returns
returns c = c.loop-number.invariant.are ∙ ap (λ n. c.args.out.now.items ++ others_to c.args.places.now c.args.class c.args.range.first n)
    (same_end c.args.range.first c.args.range.end c.loop-number.number c.loop-number.auto.number c.loop-number.auto.number-end c.loop-number.invariant.none c.loop-number-test.false)
