use Rattle.std.proofs.Common.{◌≡◌, ◌<◌, ◌+◌, ℕ, List, length, drop, get_or, drop-cons, add-one, ap, sym, ◌∙◌, is_some, Bool, true, false, if◌then◌else◌}
use Rattle.program_model.specs.Items.{first_items_from}
use Rattle.program_model.specs.declared.program.Field.{Field}
use Rattle.static_protos.proofs.items.count_first_values.Goals as goal
use Rattle.static_protos.proofs.items.count_first_values.Goals.{then-is_some, else-is_some}

-- one more field is passed
passes : (fields : List Field) (place count next : ℕ) (field : Field) (first : Bool) → place < length fields → field ≡ get_or fields place field
    → is_some field.first ≡ first → next ≡ (if first then place + 1 else count)
    → first_items_from next (place + 1) (drop (place + 1) fields) ≡ first_items_from count place (drop place fields)
passes fields place count next field first inside is has made =
    rw (drop-cons fields place field, ← is) (
    ap (λ n. first_items_from n (place + 1) (drop (place + 1) fields)) (made ∙ ap (λ b. if b then place + 1 else count) (sym has))
    ∙ ap (λ k. first_items_from (if is_some field.first then place + 1 else count) (place + 1) (drop k fields)) (add-one place))

pub loop-place-preserved : goal.loop-place-preserved
loop-place-preserved c =
    let xs = c.args.fields.now in
    let before = c.loop-place.invariant in
    elim c.if-is_some.branch [
      | then-is_some w ↦ passes xs c.loop-place.place c.loop-place.count c.if-is_some.count c.index-fields-place.result true c.loop-place-test.true c.index-fields-place.is (sym c.is_some.ensures ∙ w.if-is_some.true) w.count-is ∙ before
      | else-is_some w ↦ passes xs c.loop-place.place c.loop-place.count c.if-is_some.count c.index-fields-place.result false c.loop-place-test.true c.index-fields-place.is (sym c.is_some.ensures ∙ w.if-is_some.false) w.count-is ∙ before
    ]
