use Rattle.std.proofs.Common.{inl, inr, refl, slice_get}
use Rattle.class_defs.specs.Members.{is_interface}
use Rattle.dalvik_lookups.specs.Rising.{todo}
use Rattle.dalvik_lookups.proofs.Rising.{skip_of, open_of, skip_rests, open_less}
use Rattle.dalvik_lookups.proofs.lookups.Lookups.rise.Goals as goal

pub returns-then-not-branch-clause-rises : goal.returns-then-not-branch-clause-rises
returns-then-not-branch-clause-rises c = λ r.
    inl (skip_of c.args.self.now.program.now c.args.class c.args.walk.now.seen.items c.opens.new.walk.seen.items (todo c.args.rise.now) (todo c.args.rise.now) c.in_ok-opens.field-0 c.in_ok-opens.ensures.met c.if-not-branch.true c.in_ok-opens.ensures.seen refl)

pub returns-clause-rises : goal.returns-clause-rises
returns-clause-rises c = λ r.
    inr (open_of c.args.self.now.program.now c.args.class c.args.walk.now.seen.items c.opens.new.walk.seen.items (todo c.args.rise.now) (todo c.push.new.self) (todo c.push_all.new.self) c.interfaces_of.result.now c.in_ok-opens.field-0 c.in_ok-opens.ensures.met c.if-not-branch.false c.in_ok-opens.ensures.seen
    (c.interfaces_of.ensures c.args.self.now.program.now r.resolved.of) c.in_ok-push.ensures c.in_ok-push_all.ensures.first)

pub returns-then-not-branch-clause-less : goal.returns-then-not-branch-clause-less
returns-then-not-branch-clause-less c = skip_rests c.args.class c.args.walk.now.seen.items c.opens.new.walk.seen.items (todo c.args.rise.now) c.in_ok-opens.field-0 c.if-not-branch.true c.in_ok-opens.ensures.seen

pub returns-clause-less : goal.returns-clause-less
returns-clause-less c =
    open_less c.args.class (is_interface (slice_get c.args.self.now.program.now.classes c.args.class)) c.args.walk.now.seen.items c.opens.new.walk.seen.items (todo c.args.rise.now) (todo c.push.new.self) (todo c.push_all.new.self) c.interfaces_of.result.now c.in_ok-opens.field-0
    c.in_ok-opens.ensures.met c.if-not-branch.false c.in_ok-opens.ensures.seen c.in_ok-push.ensures c.in_ok-push_all.ensures.first c.push_all.ensures.short
