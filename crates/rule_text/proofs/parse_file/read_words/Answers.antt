use Rattle.std.proofs.Common.{◌≡◌, [], ◌∷◌, ◌++◌, ap, ◌∙◌, rules}
use Rattle.rule_text.proofs.EntryLemmas.{no_words, more_words}
use Rattle.rule_text.proofs.parse_file.read_words.Goals as goal

pub loop-word-init : goal.loop-word-init
loop-word-init c = (search rules, search rules, no_words c.args.tokens.now c.args.at.now c.new-words.result.items c.new-words.ensures.items)

pub loop-word-preserved : goal.loop-word-preserved
loop-word-preserved c =
    let blank : c.push.new.self.items ≡ c.loop-word.words.items ++ 32 ∷ [] = search rules in
    let word : c.extend_from_slice.new.self.items ≡ c.push.new.self.items ++ c.in-Some.word.now = search rules in (
      search rules,
      search rules,
      more_words c.args.tokens.now c.args.at.now c.loop-word.at c.option_word.new.at c.loop-word.words.items c.extend_from_slice.new.self.items c.in-Some.word.now c.loop-word.invariant.2 (search rules) (search rules)
          (word ∙ ap (λ cs. cs ++ c.in-Some.word.now) blank),
    )
