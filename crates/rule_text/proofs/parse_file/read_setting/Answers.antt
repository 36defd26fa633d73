use Rattle.std.proofs.Common.{◌≡◌, ◌∷◌, true, not, subst, rules, tests}
use Rattle.rule_text.specs.Spelling.{begins_option, is_long, setting_word}
use Rattle.rule_text.specs.Steps.{words_at, first_word}
use Rattle.rule_text.specs.Halts.{IsNoNameOf}
use Rattle.rule_text.proofs.EntryLemmas.{lone_entry, long_entry}
use Rattle.rule_text.proofs.HaltLemmas.{option_before}
use Rattle.rule_text.proofs.EntryRefusals.{lone_whole, long_whole, begins_none}
use Rattle.rule_text.proofs.parse_file.read_setting.Goals as goal

pub returns-in-Some-clause-step : goal.returns-in-Some-clause-step
returns-in-Some-clause-step c = lone_entry c.args.tokens.now c.args.at.now c.read_lone.new.at _ (search rules) c.new-words.ensures.items

pub returns-in-Some-read_long-clause-step : goal.returns-in-Some-read_long-clause-step
returns-in-Some-read_long-clause-step c =
    let same : c.read_lone.new.at ≡ c.args.at.now = search rules in
    let is : words_at c.args.tokens.now c.read_lone.new.at ≡ setting_word c.in-Some-read_long.name ∷ words_at c.args.tokens.now c.read_long.new.at = search rules in
    long_entry c.args.tokens.now c.args.at.now c.read_long.new.at c.read_words.new.at _ (subst (λ at. words_at c.args.tokens.now at ≡ setting_word c.in-Some-read_long.name ∷ words_at c.args.tokens.now c.read_long.new.at) same is) (search rules) (search rules)

pub returns-then-begins_option-clause-halt : goal.returns-then-begins_option-clause-halt
returns-then-begins_option-clause-halt c rule =
    let lone : IsNoNameOf (λ name. not (is_long name)) setting_word (first_word (words_at c.args.tokens.now c.args.at.now)) = search rules in
    let long : IsNoNameOf is_long setting_word (first_word (words_at c.args.tokens.now c.read_lone.new.at)) = search rules in
    let begins : begins_option c.word_at.result.now ≡ true = search (rules, tests) in
    option_before c.args.tokens.now c.args.at.now c.read_lone.new.at c.read_long.new.at c.word_at.result.now rule (search rules) (search rules) lone long c.word_at.ensures begins

pub returns-in-Some-clause-whole : goal.returns-in-Some-clause-whole
returns-in-Some-clause-whole c =
    lone_whole c.args.tokens.now c.args.at.now c.read_lone.new.at c.in-Some.name (search rules) (search rules)

pub returns-in-Some-read_long-clause-whole : goal.returns-in-Some-read_long-clause-whole
returns-in-Some-read_long-clause-whole c =
    long_whole c.args.tokens.now c.args.at.now c.read_lone.new.at c.read_long.new.at c.read_words.new.at c.in-Some-read_long.name c.in_ok-words.words.items (search rules) (search rules) (search rules) (search rules) (search rules)

pub returns-clause-halt : goal.returns-clause-halt
returns-clause-halt c rule =
    let lone : IsNoNameOf (λ name. not (is_long name)) setting_word (first_word (words_at c.args.tokens.now c.args.at.now)) = search rules in
    let long : IsNoNameOf is_long setting_word (first_word (words_at c.args.tokens.now c.read_lone.new.at)) = search rules in
    begins_none c.args.tokens.now c.args.at.now c.read_lone.new.at c.read_long.new.at c.word_at.result.now rule (search rules) (search rules) lone long c.word_at.ensures (search (rules, tests))
