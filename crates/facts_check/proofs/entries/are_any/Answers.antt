use Rattle.std.proofs.Common.{ℕ, refl}
use Rattle.domains.specs.Values.{Parts, any_value}
use Rattle.closed_facts.specs.Tables.{IsBelow}
use Rattle.facts_check.proofs.Loops.{one_item, all_of}
use Rattle.facts_check.proofs.entries.are_any.Goals as goal

pub loop-value-preserved : goal.loop-value-preserved
loop-value-preserved c = one_item (λ (i : ℕ) (v : Parts). IsBelow any_value v) c.args.values.now c.loop-value.value-index c.value-item.result c.value-item.is (c.if-not-is_any.ensures refl) c.loop-value.invariant

pub returns : goal.returns
returns c = λ e. all_of (λ (i : ℕ) (v : Parts). IsBelow any_value v) c.args.values.now c.loop-value.value-index c.loop-value-test.false c.loop-value.invariant
