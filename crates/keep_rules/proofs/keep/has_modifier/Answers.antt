use Rattle.rule_text.specs.declared.rules.Modifier.{Modifier}
use Rattle.rule_text.specs.Spelling.{word_eq, modifier_word}
use Rattle.keep_rules.proofs.AnyLemmas.{read_here, one_found, one_passed, one_end}
use Rattle.keep_rules.proofs.keep.has_modifier.Goals as goal

pub returns-then-same : goal.returns-then-same
returns-then-same c = one_found (λ (n : Modifier). word_eq (modifier_word n) (modifier_word c.args.wanted)) c.args.modifiers.now c.loop-modifier.modifier-index _ _ c.loop-modifier-test.true (read_here c.args.modifiers.now c.loop-modifier.modifier-index _ c.loop-modifier-test.true) c.is_same-same.ensures c.if-same.true c.loop-modifier.invariant

pub loop-modifier-preserved : goal.loop-modifier-preserved
loop-modifier-preserved c = one_passed (λ (n : Modifier). word_eq (modifier_word n) (modifier_word c.args.wanted)) c.args.modifiers.now c.loop-modifier.modifier-index _ _ c.loop-modifier-test.true (read_here c.args.modifiers.now c.loop-modifier.modifier-index _ c.loop-modifier-test.true) c.is_same-same.ensures c.if-same.false c.loop-modifier.invariant

pub returns : goal.returns
returns c = one_end (λ (n : Modifier). word_eq (modifier_word n) (modifier_word c.args.wanted)) c.args.modifiers.now _ c.loop-modifier-test.false c.loop-modifier.invariant
