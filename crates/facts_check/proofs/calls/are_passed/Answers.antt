use Rattle.std.proofs.Common.{◌≡◌, ℕ, ◌≤◌, refl, subst, arith, get_or}
use Rattle.std.specs.Prelude.{length}
use Rattle.domains.specs.Values.{Parts}
use Rattle.dom_frame.specs.Registers.{value_at}
use Rattle.closed_facts.specs.Tables.{IsBelow, parameter_at}
use Rattle.facts_check.proofs.Loops.{one_number, all_of}
use Rattle.facts_check.proofs.calls.are_passed.Goals as goal

pub loop-place-preserved : goal.loop-place-preserved
loop-place-preserved c =
    let here : c.value_at-value.result ≡ value_at c.args.registers.now (get_or c.args.args.now c.loop-place.place 0) = cc in
    let passed : IsBelow c.value_at-value.result (parameter_at c.args.known.now.facts.now c.args.method c.loop-place.place) = c.if-not-is_passed.ensures refl in
    one_number (λ (i r : ℕ). IsBelow (value_at c.args.registers.now r) (parameter_at c.args.known.now.facts.now c.args.method i)) c.args.args.now c.loop-place.place
    (subst (λ (v : Parts). IsBelow v (parameter_at c.args.known.now.facts.now c.args.method c.loop-place.place)) here passed)
    c.loop-place.invariant

pub returns : goal.returns
returns c =
    let long : length c.args.args.now ≤ c.loop-place.place = omega arith in
    λ e. all_of (λ (i r : ℕ). IsBelow (value_at c.args.registers.now r) (parameter_at c.args.known.now.facts.now c.args.method i)) c.args.args.now c.loop-place.place long c.loop-place.invariant
