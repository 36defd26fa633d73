use Rattle.std.proofs.Common.{◌≡◌, ◌∙◌, Some, None, option_and_then, rules, sym, ap, arith}
use Rattle.command_line.specs.Reading.{number_of, small}
use Rattle.command_line.proofs.Numbers.{numbers-fail, numbers-on, numbers-last}
use Rattle.command_line.proofs.told.numbers_of.Goals as goal

pub returns-in_default : goal.returns-in_default
returns-in_default c =
    let none : option_and_then small (number_of c.text-item.result) ≡ None = ap (λ t. option_and_then small (number_of t)) (sym c.as_str.ensures) ∙ sym c.small_number.ensures ∙ c.in_default.is in
    numbers-fail c.args.texts.now c.loop-text.text-index c.loop-text.numbers.items _ c.text-item.result c.loop-text-test.true c.text-item.is c.loop-text.invariant none

pub loop-text-preserved : goal.loop-text-preserved
loop-text-preserved c =
    let some : option_and_then small (number_of c.text-item.result) ≡ Some c.in-Some.number = ap (λ t. option_and_then small (number_of t)) (sym c.as_str.ensures) ∙ sym c.small_number.ensures ∙ c.in-Some.is in
    numbers-on c.args.texts.now c.loop-text.text-index c.loop-text.numbers.items _ c.text-item.result c.loop-text-test.true c.text-item.is c.loop-text.invariant c.in-Some.number _ some (search rules)

pub returns : goal.returns
returns c = numbers-last c.args.texts.now c.loop-text.text-index c.loop-text.numbers.items _ (omega arith) c.loop-text.invariant
