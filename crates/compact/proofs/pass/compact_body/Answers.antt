use Rattle.std.proofs.Common.{◌∙◌, Bool, List, true, false, refl, sym, subst}
use Rattle.compact.specs.Choosing.{Moves}
use Rattle.compact.proofs.Chosen.{compacted, was_compacted, stays}
use Rattle.compact.proofs.pass.compact_body.Goals as goal

pub returns-then-not-moves-clause-is : goal.returns-then-not-moves-clause-is
returns-then-not-moves-clause-is c =
    let none : Moves c.as_slice-2.result.now c.in_ok-numbers.numbers.low.items c.in_ok-numbers.numbers.shift false = subst (λ t. Moves c.as_slice-2.result.now c.in_ok-numbers.numbers.low.items c.in_ok-numbers.numbers.shift t) c.if-not-moves.true c.moves.ensures in
    let same : Moves c.as_slice.result.now c.in_ok-numbers.numbers.low.items c.in_ok-numbers.numbers.shift false = subst (λ (u : List Bool). Moves u c.in_ok-numbers.numbers.low.items c.in_ok-numbers.numbers.shift false) (c.as_slice-2.ensures.value ∙ sym c.as_slice.ensures.value) none in
    stays c.args.widths.now c.args.body.now c.as_slice.result.now c.in_ok-numbers.numbers.low.items c.in_ok-numbers.numbers.shift c.in_ok-numbers.ensures same c.args.body.now refl

pub returns-clause-is : goal.returns-clause-is
returns-clause-is c =
    let some : Moves c.as_slice-2.result.now c.in_ok-numbers.numbers.low.items c.in_ok-numbers.numbers.shift true = subst (λ t. Moves c.as_slice-2.result.now c.in_ok-numbers.numbers.low.items c.in_ok-numbers.numbers.shift t) c.if-not-moves.false c.moves.ensures in
    let same : Moves c.as_slice.result.now c.in_ok-numbers.numbers.low.items c.in_ok-numbers.numbers.shift true = subst (λ (u : List Bool). Moves u c.in_ok-numbers.numbers.low.items c.in_ok-numbers.numbers.shift true) (c.as_slice-2.ensures.value ∙ sym c.as_slice.ensures.value) some in
    compacted c.args.widths.now c.args.body.now c.as_slice.result.now c.in_ok-numbers.numbers.low.items c.in_ok-numbers.numbers.shift c.in_ok-numbers.ensures same c.renumber_body.new.body c.in_ok-renumber_body.ensures

pub returns-clause-count : goal.returns-clause-count
returns-clause-count c =
    let some : Moves c.as_slice-2.result.now c.in_ok-numbers.numbers.low.items c.in_ok-numbers.numbers.shift true = subst (λ t. Moves c.as_slice-2.result.now c.in_ok-numbers.numbers.low.items c.in_ok-numbers.numbers.shift t) c.if-not-moves.false c.moves.ensures in
    let same : Moves c.as_slice.result.now c.in_ok-numbers.numbers.low.items c.in_ok-numbers.numbers.shift true = subst (λ (u : List Bool). Moves u c.in_ok-numbers.numbers.low.items c.in_ok-numbers.numbers.shift true) (c.as_slice-2.ensures.value ∙ sym c.as_slice.ensures.value) some in
    was_compacted c.args.widths.now c.args.body.now c.as_slice.result.now c.in_ok-numbers.numbers.low.items c.in_ok-numbers.numbers.shift c.in_ok-numbers.ensures same c.renumber_body.new.body c.in_ok-renumber_body.ensures
