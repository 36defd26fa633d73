use Rattle.std.proofs.Common.{◌≡◌, ◌∙◌, ℕ, List, Some, sym, ap, subst, arith, get_or, length}
use Rattle.std.specs.Prelude.{slice_get}
use Rattle.call_targets.proofs.Contained.{got_item, first_at}
use Rattle.program_model.specs.Texts.{string_text}
use Rattle.call_graph.specs.Bases.{same_text, object_text, or_none}
use Rattle.call_targets.proofs.looks.object_kind.Goals as goal

pub returns-then-is_object_text : goal.returns-then-is_object_text
returns-then-is_object_text c = λ few.
    let types : List ℕ = c.args.at.now.program.now.types in
    let slice : List ℕ = c.as_slice-string-items.result.now in
    let got : slice_get types c.loop-string.string-index ≡ Some (get_or slice c.loop-string.string-index 0) = subst (λ l. slice_get l c.loop-string.string-index ≡ Some (get_or slice c.loop-string.string-index 0)) c.as_slice-string-items.ensures (got_item slice c.loop-string.string-index 0 c.loop-string-test.true) in
    let lengths : length slice ≡ length types = ap length c.as_slice-string-items.ensures in
    c.word.ensures (omega (arith, few, lengths, c.loop-string-test.true, c.loop-string.invariant.at_string)) ∙ c.loop-string.invariant.at_string
    ∙ sym (ap or_none (first_at (λ s. same_text (string_text c.args.at.now.program.now s) object_text) types c.loop-string.string-index (get_or slice c.loop-string.string-index 0) c.loop-string.invariant.none got (ap (λ u. same_text u object_text) (sym c.units_of.ensures) ∙ sym c.is_object_text.ensures ∙ c.if-is_object_text.true)))
