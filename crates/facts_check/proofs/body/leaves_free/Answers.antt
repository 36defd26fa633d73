use Rattle.std.proofs.Common.{◌≡◌, ℕ, refl, subst, below_more}
use Rattle.domains.specs.Values.{Parts, any_value}
use Rattle.dom_frame.specs.Registers.{value_at}
use Rattle.closed_facts.specs.Tables.{IsBelow}
use Rattle.facts_check.proofs.body.leaves_free.Goals as goal

pub loop-register-preserved : goal.loop-register-preserved
loop-register-preserved c =
    let same : c.value_at.result ≡ value_at c.args.registers.now c.loop-register.register = cc in
    below_more (λ (r : ℕ). IsBelow any_value (value_at c.args.registers.now r)) c.loop-register.register c.loop-register.invariant (subst (λ (v : Parts). IsBelow any_value v) same (c.if-not-is_any.ensures refl))
