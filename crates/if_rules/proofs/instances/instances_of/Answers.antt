use Rattle.std.proofs.Common.{◌≡◌, ◌<◌, ◌∙◌, List, [], Some, slice_get, length, ap, sym, subst, arith}
use Rattle.std.proofs.lemmas.Option.{slice_get-get_or}
use Rattle.keep_rules.proofs.EachLemmas.{each_length}
use Rattle.if_text.specs.Readings.{IsIfOf}
use Rattle.if_rules.specs.Listed.{Grew, OfRules}
use Rattle.if_rules.proofs.Grows.{rules_all, rules_more, rules_none}
use Rattle.if_rules.proofs.Lives.{EachThere, each_there}
use Rattle.if_rules.proofs.instances.instances_of.Goals as goal

pub loop-number-init : goal.loop-number-init
loop-number-init c = λ rs formed of_p are. subst (λ (xs : List _). Grew c.args.program.now rs (OfRules 0) [] xs) (sym c.new-out.ensures.items) (rules_none c.args.program.now rs [])

pub loop-number-preserved : goal.loop-number-preserved
loop-number-preserved c = λ rs formed of_p are.
    let inside : c.loop-number.number < length c.args.rules.now = omega (arith, c.loop-number-test.true) in
    let at : slice_get c.args.rules.now c.loop-number.number ≡ Some c.index-rules-number.result = slice_get-get_or c.args.rules.now c.loop-number.number c.index-rules-number.result inside ∙ ap (λ r. Some r) (sym c.index-rules-number.is) in
    let there : EachThere IsIfOf rs c.loop-number.number c.index-rules-number.result = each_there IsIfOf c.args.rules.now rs c.loop-number.number c.index-rules-number.result are at in
    rules_more c.args.program.now rs c.loop-number.number [] c.loop-number.out.items c.push_rule.new.out.items (c.loop-number.invariant rs formed of_p are) (c.in_ok-push_rule.ensures rs there.one formed of_p there.is there.related)

pub returns : goal.returns
returns c = λ rs formed of_p are. rules_all c.args.program.now rs c.loop-number.number c.loop-number.out.items (omega (arith, c.loop-number-test.false, each_length IsIfOf c.args.rules.now rs are)) (c.loop-number.invariant rs formed of_p are)
