use Rattle.std.proofs.Common.{◌≡◌, ◌∙◌, refl, ap, sym, subst, length, suc, arith}
use Rattle.class_defs.specs.Places.{above_places}
use Rattle.hierarchy.specs.Walking.{waits}
use Rattle.dalvik_lookups.specs.Listing.{left, Grows}
use Rattle.dalvik_lookups.specs.Reached.{touches_at}
use Rattle.dalvik_lookups.proofs.Upward.{fair_same, climb_on, climb_finds, climb_ends, outward_finds, outward_ends}
use Rattle.dalvik_lookups.proofs.lookups.Lookups.climb_out.Goals as goal

pub loop-one-init : goal.loop-one-init
loop-one-init c = record { fair = λ f. f; size = refl; climbs = λ class r k. k }

pub loop-one-preserved : goal.loop-one-preserved
loop-one-preserved c =
    let i = c.loop-one.invariant in
    record {
      fair = λ f. c.in_ok-enter_above.ensures.fair (fair_same c.loop-one.walk c.pop.new.self c.in-Some.ensures.seen c.in-Some.ensures.list (i.fair f));
      size = c.in_ok-enter_above.ensures.size ∙ ap (λ v. length v.items) c.in-Some.ensures.seen ∙ i.size;
      climbs = λ class r k.
          climb_on c.args.self.now.program.now r.resolved.of.ranked class (touches_at c.args.self.now.program.now) c.in-Some.one c.loop-one.walk.seen.items c.enter_above.new.walk.seen.items (waits c.loop-one.walk) (waits c.pop.new.self) (waits c.enter_above.new.walk) c.in-Some.ensures.waits (sym (c.touches_framework.ensures r) ∙ c.if-touches_framework.false)
          (subst (λ v. Grows (above_places c.args.self.now.program.now c.in-Some.one) v.items (waits c.pop.new.self) c.enter_above.new.walk.seen.items (waits c.enter_above.new.walk)) c.in-Some.ensures.seen (c.in_ok-enter_above.ensures.grows c.args.self.now.program.now r.resolved.of)) (i.climbs class r k);
    }

pub loop-one-smaller : goal.loop-one-smaller
loop-one-smaller c =
    let l = c.in_ok-enter_above.ensures.left in
    let s : left c.pop.new.self.seen.items ≡ left c.loop-one.walk.seen.items = ap (λ v. left v.items) c.in-Some.ensures.seen in
    let w : length (waits c.loop-one.walk) ≡ suc (length (waits c.pop.new.self)) = ap length c.in-Some.ensures.waits in
    omega (arith, l, s, w)

pub returns-then-touches_framework-clause-is : goal.returns-then-touches_framework-clause-is
returns-then-touches_framework-clause-is c = λ class r k.
    sym (outward_finds c.args.self.now.program.now r.resolved.of.ranked class (climb_finds c.args.self.now.program.now r.resolved.of.ranked class (touches_at c.args.self.now.program.now) c.in-Some.one c.loop-one.walk.seen.items (waits c.loop-one.walk) (waits c.pop.new.self) c.in-Some.ensures.waits (sym (c.touches_framework.ensures r) ∙ c.if-touches_framework.true) (c.loop-one.invariant.climbs class r k)))

pub returns-clause-is : goal.returns-clause-is
returns-clause-is c = λ class r k.
    sym (outward_ends c.args.self.now.program.now r.resolved.of.ranked class (climb_ends c.args.self.now.program.now r.resolved.of.ranked class (touches_at c.args.self.now.program.now) c.loop-one.walk.seen.items (waits c.loop-one.walk) c.in_default.ensures.waits (c.loop-one.invariant.climbs class r k)))
