use native.Mathlib.Omega.{arith}
use Rattle.if_rules.proofs.MatchingLemmas.{matched_none, matched_more, matched_all}
use Rattle.if_rules.proofs.matching.places_matched.Goals as goal

pub loop-place-init : goal.loop-place-init
loop-place-init c = λ k is standing. matched_none c.args.program.now k c.new-out.result.items c.new-out.ensures.items

pub loop-place-preserved : goal.loop-place-preserved
loop-place-preserved c = λ k is standing. matched_more c.args.program.now k c.loop-place.place c.loop-place.out.items c.push_matching.new.out.items (c.loop-place.invariant k is standing) (c.in_ok-push_matching.ensures k is standing)

pub returns : goal.returns
returns c = λ k is standing. matched_all c.args.program.now k c.loop-place.place c.loop-place.out.items (omega (arith, c.loop-place-test.false, c.len-place-end.ensures)) (c.loop-place.invariant k is standing)
