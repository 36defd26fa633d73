use Rattle.std.proofs.Common.{◌≡◌, ℕ, ◌+◌, refl, subst, below_more}
use Rattle.domains.specs.Values.{Parts}
use Rattle.dom_frame.specs.Registers.{value_at}
use Rattle.closed_facts.specs.Tables.{IsBelow, parameter_at}
use Rattle.facts_check.proofs.body.takes_parameters.Goals as goal

pub loop-word-preserved : goal.loop-word-preserved
loop-word-preserved c =
    let here : c.value_at-value.result ≡ value_at c.args.registers.now (c.args.free + c.loop-word.word) = cc in
    let known : c.parameter.result.now ≡ parameter_at c.args.known.now.facts.now c.args.number c.loop-word.word = cc in
    below_more (λ (i : ℕ). IsBelow (parameter_at c.args.known.now.facts.now c.args.number i) (value_at c.args.registers.now (c.args.free + i))) c.loop-word.word c.loop-word.invariant
    (subst (λ (v : Parts). IsBelow v (value_at c.args.registers.now (c.args.free + c.loop-word.word))) known (subst (λ (v : Parts). IsBelow c.parameter.result.now v) here (c.if-not-is_below.ensures refl)))
