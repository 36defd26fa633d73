use Rattle.std.proofs.Common.{◌∙◌, List, ℕ, Some, None, ap, arith, get_or}
use Rattle.std.proofs.lemmas.List.{get_or_default}
use Rattle.std.specs.Prelude.{cond}
use Rattle.std.specs.Option.{option_or}
use Rattle.verify.specs.Descriptors.{same_text, number_of, is_item_of, without_brackets}
use Rattle.verify.proofs.Along.{AtPlace, at_place, number_more}
use Rattle.verify.proofs.named.items.Goals as goal

pub loop-string-preserved : goal.loop-string-preserved
loop-string-preserved c =
    let i = c.loop-string.invariant in
    let e = c.saturating_add-at.ensures in
    let slice : List ℕ = c.as_slice-string-items.result.now in
    let string : ℕ = get_or slice c.loop-string.string-index 0 in
    record {
      at = grind (arith, e, i.at);
      known = λ t.
          let at : AtPlace c.args.program.now.types c.loop-string.string-index string = at_place c.args.program.now.types slice c.loop-string.string-index string c.as_slice-string-items.ensures (get_or_default slice c.loop-string.string-index 0 string c.loop-string-test.true) c.loop-string-test.true in
          number_more (is_item_of c.args.program.now t) c.args.program.now.types c.loop-string.string-index c.loop-string.at string (number_of c.loop-string.numbers t) (number_of c.give.new.numbers t) at i.at (i.known t)
          (c.in_ok-give.ensures t ∙ ap (λ u. option_or (number_of c.loop-string.numbers t) (cond (same_text u t) (Some c.loop-string.at) None)) (c.without_brackets.ensures ∙ ap without_brackets c.units_of.ensures));
    }
