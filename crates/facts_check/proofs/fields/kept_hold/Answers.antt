use Rattle.std.proofs.Common.{◌≡◌, ℕ, ◌≤◌, List, refl, subst, get_or}
use Rattle.std.specs.Prelude.{length}
use Rattle.domains.specs.Values.{any_value}
use Rattle.closed_facts.specs.Tables.{IsBelow, field_at}
use Rattle.facts_check.proofs.Loops.{one_number, all_of}
use Rattle.facts_check.proofs.fields.kept_hold.Goals as goal

pub loop-field-preserved : goal.loop-field-preserved
loop-field-preserved c =
    let fields : c.as_slice-field-items.result.now ≡ c.args.known.now.outside.now.fields = c.as_slice-field-items.ensures in
    one_number (λ (i n : ℕ). IsBelow any_value (field_at c.args.known.now.facts.now n)) c.args.known.now.outside.now.fields c.loop-field.field-index
    (subst (λ (xs : List ℕ). IsBelow any_value (field_at c.args.known.now.facts.now (get_or xs c.loop-field.field-index 0))) fields (c.if-not-is_open_field.ensures refl))
    c.loop-field.invariant

pub returns : goal.returns
returns c =
    let fields : c.as_slice-field-items.result.now ≡ c.args.known.now.outside.now.fields = c.as_slice-field-items.ensures in
    let long : length c.args.known.now.outside.now.fields ≤ c.loop-field.field-index = subst (λ (xs : List ℕ). length xs ≤ c.loop-field.field-index) fields c.loop-field-test.false in
    λ e. all_of (λ (i n : ℕ). IsBelow any_value (field_at c.args.known.now.facts.now n)) c.args.known.now.outside.now.fields c.loop-field.field-index long c.loop-field.invariant
