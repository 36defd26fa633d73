use Rattle.std.proofs.Common.{◌≡◌, suc, ◌+◌, ◌-◌, inl, inr, sym, ◌∙◌, arith}
use Rattle.verify.proofs.Begun.{climb_on, climb_stops, some_done}
use Rattle.verify.proofs.chains.Chains.climb.Goals as goal

pub returns-in-None : goal.returns-in-None
returns-in-None c = climb_stops c.args.self.now _ c.loop.at c.loop.path.items _ (inl c.in-None.is) c.loop.invariant

pub returns-then-is_done : goal.returns-then-is_done
returns-then-is_done c = climb_stops c.args.self.now _ c.loop.at c.loop.path.items _ (inr (some_done c.args.self.now c.loop.at c.in-Some.one c.in-Some.is (sym c.is_done.ensures ∙ c.if-is_done.true))) c.loop.invariant

pub loop-preserved : goal.loop-preserved
loop-preserved c =
    let left : c.len-end.result - c.loop.counter ≡ suc (c.len-end.result - (c.loop.counter + 1)) = omega (arith, c.loop-test.true) in
    climb_on c.args.self.now _ _ c.in-Some.one c.loop.at c.above-at.result c.loop.path.items c.push.new.self.items _ left c.in-Some.is c.above-at.ensures (sym c.is_done.ensures ∙ c.if-is_done.false) c.in_ok-push.ensures.items c.loop.invariant
