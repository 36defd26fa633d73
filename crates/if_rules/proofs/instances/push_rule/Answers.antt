use Rattle.std.proofs.Common.{◌≡◌, ◌-◌, ◌∷◌, List, ℕ, drop, slice_index, length, take, sym, subst, arith}
use Rattle.std.proofs.lemmas.List.{nil_from_length}
use Rattle.if_rules.specs.Matching.{AreMatched}
use Rattle.if_rules.proofs.Grows.{but_all, but_first, but_more, but_none}
use Rattle.if_rules.proofs.Lives.{split_number}
use Rattle.if_rules.proofs.instances.push_rule.Goals as goal

pub loop-rest-init : goal.loop-rest-init
loop-rest-init c = λ rs r formed of_p is of. but_all c.args.program.now rs c.args.number c.as_slice-rest.result.now c.args.out.now.items

pub loop-rest-preserved : goal.loop-rest-preserved
loop-rest-preserved c = λ rs r formed of_p is of.
    let first : c.loop-rest.rest.now ≡ slice_index c.loop-rest.rest.now 0 ∷ take (length c.loop-rest.rest.now - 1) (drop 1 c.loop-rest.rest.now) = split_number c.loop-rest.rest.now (omega arith) in
    let matched : AreMatched c.args.program.now r.condition c.as_slice-rest.result.now = subst (λ (ks : List ℕ). AreMatched c.args.program.now r.condition ks) (sym c.as_slice-rest.ensures.value) (c.in_ok-places.ensures r.condition formed of_p of.condition) in
    but_more c.args.program.now rs c.args.number c.as_slice-rest.result.now c.loop-rest.rest.now (slice_index c.loop-rest.rest.now 0) _ c.args.out.now.items c.loop-rest.out.items c.push_place.new.out.items first
    (c.in_ok-push_place.ensures rs r formed is of
    (matched.sound (slice_index c.loop-rest.rest.now 0) (but_first c.args.program.now rs c.args.number c.as_slice-rest.result.now c.loop-rest.rest.now (slice_index c.loop-rest.rest.now 0) _ c.args.out.now.items c.loop-rest.out.items first (c.loop-rest.invariant rs r formed of_p is of))))
    (c.loop-rest.invariant rs r formed of_p is of)

pub returns : goal.returns
returns c = λ rs r formed of_p is of. but_none c.args.program.now rs c.args.number r c.as_slice-rest.result.now c.loop-rest.rest.now c.args.out.now.items c.loop-rest.out.items (nil_from_length c.loop-rest.rest.now (omega arith)) is
    (subst (λ (ks : List ℕ). AreMatched c.args.program.now r.condition ks) (sym c.as_slice-rest.ensures.value) (c.in_ok-places.ensures r.condition formed of_p of.condition)) (c.loop-rest.invariant rs r formed of_p is of)
