use Rattle.std.proofs.Common.{◌≡◌, ◌∷◌, suc, subst, rules, arith}
use Rattle.rule_text.specs.Places.{Between}
use Rattle.rule_text.specs.Reads.{Reads}
use Rattle.rule_text.specs.Refusals.{EndsWhole}
use Rattle.rule_text.specs.Related.{IsEntryOf}
use Rattle.rule_text.specs.Spelling.{is_entry, entry_words}
use Rattle.rule_text.specs.Steps.{words_at}
use Rattle.if_text.specs.Items.{if_word}
use Rattle.if_text.proofs.Halts.{next_is, if_there}
use Rattle.if_text.proofs.Items.{adds_entry, adds_if}
use Rattle.if_text.proofs.read.read_item.Goals as goal

pub returns-then-accept-clause-step : goal.returns-then-accept-clause-step
returns-then-accept-clause-step c =
    let words : words_at c.args.tokens.now c.args.at.now ≡ if_word ∷ words_at c.args.tokens.now c.accept.new.at = search rules in
    let next : c.accept.new.at ≡ suc c.args.at.now = next_is c.args.tokens.now c.args.at.now c.accept.new.at if_word words (omega (arith, c.requires.inside)) c.accept.ensures.inside in
    adds_if c.args.tokens.now c.args.hidden.now c.args.at.now c.read_if.new.at c.in_ok-rule.rule c.args.rules.now _ (c.in_ok-rule.ensures.step c.args.at.now next (if_there c.args.tokens.now c.args.at.now c.accept.new.at words)) (search rules) (search rules)

pub returns-clause-step : goal.returns-clause-step
returns-clause-step c =
    let stays : c.accept.new.at ≡ c.args.at.now = search rules in
    adds_entry c.args.tokens.now c.args.hidden.now c.args.at.now c.read_entry.new.at c.in_ok-entry.entry c.args.rules.now _
    (subst (λ n. Reads IsEntryOf is_entry entry_words c.args.tokens.now n c.read_entry.new.at c.in_ok-entry.entry) stays c.in_ok-entry.ensures.step)
    (subst (λ n. EndsWhole Between c.args.tokens.now n c.read_entry.new.at) stays c.in_ok-entry.ensures.whole) (search rules) (search rules)
