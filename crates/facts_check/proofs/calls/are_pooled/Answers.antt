use Rattle.std.proofs.Common.{◌≡◌, ℕ, ◌≤◌, refl, subst, arith, get_or}
use Rattle.std.specs.Prelude.{length}
use Rattle.domains.specs.Values.{Parts}
use Rattle.dom_frame.specs.Registers.{value_at}
use Rattle.closed_facts.specs.Tables.{IsBelow}
use Rattle.facts_check.proofs.Loops.{one_number, all_of}
use Rattle.facts_check.proofs.calls.are_pooled.Goals as goal

pub loop-place-preserved : goal.loop-place-preserved
loop-place-preserved c =
    let here : c.value_at-value.result ≡ value_at c.args.registers.now (get_or c.args.args.now c.loop-place.place 0) = cc in
    let pooled : c.value_at.result ≡ value_at c.args.pool.now c.loop-place.place = cc in
    one_number (λ (i r : ℕ). IsBelow (value_at c.args.registers.now r) (value_at c.args.pool.now i)) c.args.args.now c.loop-place.place
    (subst (λ (v : Parts). IsBelow v (value_at c.args.pool.now c.loop-place.place)) here (subst (λ (v : Parts). IsBelow c.value_at-value.result v) pooled (c.if-not-is_below.ensures refl)))
    c.loop-place.invariant

pub returns : goal.returns
returns c =
    let long : length c.args.args.now ≤ c.loop-place.place = omega arith in
    λ e. all_of (λ (i r : ℕ). IsBelow (value_at c.args.registers.now r) (value_at c.args.pool.now i)) c.args.args.now c.loop-place.place long c.loop-place.invariant
