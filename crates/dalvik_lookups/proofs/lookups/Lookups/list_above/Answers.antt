use Rattle.std.proofs.Common.{◌≡◌, ◌∙◌, refl, ap, suc, length, arith}
use Rattle.dalvik_lookups.specs.Rising.{todo}
use Rattle.dalvik_lookups.proofs.Rising.{rise_begins, rise_goes, rise_ends}
use Rattle.dalvik_lookups.proofs.lookups.Lookups.list_above.Goals as goal

pub loop-one-init : goal.loop-one-init
loop-one-init c = record {
  fair = λ f. f;
  size = refl;
  rises = λ class r u e. rise_begins c.args.self.now.program.now r.resolved.of.ranked c.args.walk.now.seen.items (todo c.args.rise.now) c.new-out.result.items class u.long u.unseen e c.new-out.ensures.items;
}

pub loop-one-preserved : goal.loop-one-preserved
loop-one-preserved c =
    let i = c.loop-one.invariant in
    record {
      fair = λ f. c.in_ok-visit.ensures.fair (i.fair f);
      size = c.in_ok-visit.ensures.size ∙ i.size;
      rises = λ class r u e.
          rise_goes c.args.self.now.program.now r.resolved.of.ranked _ c.in-Some.one c.loop-one.walk.seen.items c.visit.new.walk.seen.items (todo c.loop-one.rise) (todo c.pop.new.self) (todo c.visit.new.rise) c.loop-one.out.items c.visit.new.out.items c.in-Some.ensures
          (c.in_ok-visit.ensures.goes r) (i.rises class r u e);
    }

pub loop-one-smaller : goal.loop-one-smaller
loop-one-smaller c =
    let l = c.in_ok-visit.ensures.less in
    let w : length (todo c.loop-one.rise) ≡ suc (length (todo c.pop.new.self)) = ap length c.in-Some.ensures in
    omega (arith, l, w)

pub returns-clause-is : goal.returns-clause-is
returns-clause-is c = λ class r u e. rise_ends c.args.self.now.program.now r.resolved.of.ranked _ c.loop-one.walk.seen.items (todo c.loop-one.rise) c.loop-one.out.items c.in_default.ensures (c.loop-one.invariant.rises class r u e)
