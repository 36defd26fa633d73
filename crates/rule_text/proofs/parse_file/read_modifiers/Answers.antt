use Rattle.std.proofs.Common.{◌≡◌, [], ◌∷◌, ◌++◌, sym, ap, ◌∙◌, codes, rules, refl}
use Rattle.rule_text.specs.Spelling.{modifier_word, modifier_words}
use Rattle.rule_text.specs.Steps.{words_at}
use Rattle.rule_text.proofs.EntryLemmas.{more_modifiers}
use Rattle.rule_text.proofs.RefusalLemmas.{anyway}
use Rattle.rule_text.proofs.EntryRefusals.{no_modifier}
use Rattle.rule_text.proofs.parse_file.read_modifiers.Goals as goal

pub loop-modifiers-preserved : goal.loop-modifiers-preserved
loop-modifiers-preserved c =
    let is : c.push.new.self.items ≡ c.loop-modifiers.modifiers.items ++ c.in_ok-read_modifier.field-0 ∷ [] = search rules in
    let comma : words_at c.args.tokens.now c.loop-modifiers.at ≡ codes "," ∷ words_at c.args.tokens.now c.accept.new.at = search rules in
    let one : words_at c.args.tokens.now c.accept.new.at ≡ modifier_word c.in_ok-read_modifier.field-0 ∷ words_at c.args.tokens.now c.read_modifier.new.at = search rules in (
      search rules,
      search rules,
      c.loop-modifiers.invariant.2 ∙ more_modifiers c.loop-modifiers.modifiers.items c.in_ok-read_modifier.field-0 (words_at c.args.tokens.now c.loop-modifiers.at) (words_at c.args.tokens.now c.read_modifier.new.at) (comma ∙ ap (λ ws. codes "," ∷ ws) one)
          ∙ ap (λ ms. modifier_words ms ++ words_at c.args.tokens.now c.read_modifier.new.at) (sym is),
    )

pub returns-in_err-read_modifier-clause-refused : goal.returns-in_err-read_modifier-clause-refused
returns-in_err-read_modifier-clause-refused c =
    anyway c.from_residual.result (no_modifier c.args.tokens.now c.args.at.now c.loop-modifiers.at c.accept.new.at c.read_modifier.new.at c.loop-modifiers.modifiers.items c.loop-modifiers.invariant.2 (search rules) (c.in_err-read_modifier.ensures.stays refl).0 (c.in_err-read_modifier.ensures.stays refl).1)
