use Rattle.std.proofs.Common.{suc, subst, rules}
use Rattle.std.proofs.lemmas.Result.{err_from_is_err_and}
use Rattle.rule_text.specs.Places.{InHead}
use Rattle.rule_text.specs.Reads.{Reads}
use Rattle.rule_text.specs.Refusals.{EndsWhole}
use Rattle.rule_text.specs.Related.{IsClassOf}
use Rattle.rule_text.specs.Spelling.{is_class_rule, class_rule_words}
use Rattle.if_text.specs.Steps.{HaltsKept}
use Rattle.if_text.proofs.Halts.{condition_to, kept_halts}
use Rattle.if_text.proofs.read.read_if.Goals as goal

pub returns-in_err-words-clause-halt : goal.returns-in_err-words-clause-halt
returns-in_err-words-clause-halt c = λ begin e is.
    let reads : Reads IsClassOf is_class_rule class_rule_words c.args.tokens.now (suc begin) c.read_class.new.at c.in_ok-condition.condition =
    subst (λ n. Reads IsClassOf is_class_rule class_rule_words c.args.tokens.now n c.read_class.new.at c.in_ok-condition.condition) e c.in_ok-condition.ensures.step in
    let whole : EndsWhole InHead c.args.tokens.now (suc begin) c.read_class.new.at = subst (λ n. EndsWhole InHead c.args.tokens.now n c.read_class.new.at) e c.in_ok-condition.ensures.whole in
    let halts : HaltsKept c.args.tokens.now c.args.hidden.now c.in_ok-slots.slots.items c.read_class.new.at c.read_kept.new.at c.in_err-words.field-0.0 = search rules in
    let h = kept_halts c.args.tokens.now c.args.hidden.now c.in_ok-slots.slots.items begin c.read_class.new.at c.read_kept.new.at reads.thing c.in_err-words.field-0.0 (c.in_ok-slots.ensures reads.thing reads.related)
    (condition_to c.args.tokens.now begin c.read_class.new.at c.in_ok-condition.condition is reads whole) halts in
    let p = err_from_is_err_and c.from_residual-in_err-words.result c.from_residual-in_err-words.ensures.1 in
    rw (p.1, p.2) h
