use Rattle.std.proofs.Common.{◌≡◌, ◌∙◌, refl, ap, sym, subst, length, suc, arith}
use Rattle.class_defs.specs.Places.{above_places}
use Rattle.hierarchy.specs.Walking.{waits}
use Rattle.dalvik_lookups.specs.Listing.{lists_at, left, Grows}
use Rattle.dalvik_lookups.proofs.Upward.{fair_same, climb_on, climb_finds, climb_ends, list_finds, list_ends}
use Rattle.dalvik_lookups.proofs.listing.climb.Goals as goal

pub loop-one-init : goal.loop-one-init
loop-one-init c = record { fair = λ f. f; size = refl; climbs = λ class is k. k }

pub loop-one-preserved : goal.loop-one-preserved
loop-one-preserved c =
    let i = c.loop-one.invariant in
    record {
      fair = λ f. c.in_ok-enter_above.ensures.fair (fair_same c.loop-one.walk c.pop.new.self c.in-Some.ensures.seen c.in-Some.ensures.list (i.fair f));
      size = c.in_ok-enter_above.ensures.size ∙ ap (λ v. length v.items) c.in-Some.ensures.seen ∙ i.size;
      climbs = λ class is k.
          climb_on c.args.program.now is.ranked class (lists_at c.args.program.now c.args.kind) c.in-Some.one c.loop-one.walk.seen.items c.enter_above.new.walk.seen.items (waits c.loop-one.walk) (waits c.pop.new.self) (waits c.enter_above.new.walk) c.in-Some.ensures.waits (sym c.lists_at.ensures ∙ c.if-lists_at.false)
          (subst (λ v. Grows (above_places c.args.program.now c.in-Some.one) v.items (waits c.pop.new.self) c.enter_above.new.walk.seen.items (waits c.enter_above.new.walk)) c.in-Some.ensures.seen (c.in_ok-enter_above.ensures.grows c.args.program.now is)) (i.climbs class is k);
    }

pub loop-one-smaller : goal.loop-one-smaller
loop-one-smaller c =
    let l = c.in_ok-enter_above.ensures.left in
    let s : left c.pop.new.self.seen.items ≡ left c.loop-one.walk.seen.items = ap (λ v. left v.items) c.in-Some.ensures.seen in
    let w : length (waits c.loop-one.walk) ≡ suc (length (waits c.pop.new.self)) = ap length c.in-Some.ensures.waits in
    omega (arith, l, s, w)

pub returns-then-lists_at-clause-is : goal.returns-then-lists_at-clause-is
returns-then-lists_at-clause-is c = λ class is k.
    sym (list_finds c.args.program.now is.ranked is.once class c.args.kind (climb_finds c.args.program.now is.ranked class (lists_at c.args.program.now c.args.kind) c.in-Some.one c.loop-one.walk.seen.items (waits c.loop-one.walk) (waits c.pop.new.self) c.in-Some.ensures.waits (sym c.lists_at.ensures ∙ c.if-lists_at.true) (c.loop-one.invariant.climbs class is k)))

pub returns-clause-is : goal.returns-clause-is
returns-clause-is c = λ class is k.
    sym (list_ends c.args.program.now is.ranked is.once class c.args.kind (climb_ends c.args.program.now is.ranked class (lists_at c.args.program.now c.args.kind) c.loop-one.walk.seen.items (waits c.loop-one.walk) c.in_default.ensures.waits (c.loop-one.invariant.climbs class is k)))
