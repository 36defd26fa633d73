use Rattle.rule_text.specs.Spelling.{keep_word}
use Rattle.rule_text.specs.Steps.{words_at, first_word}
use Rattle.rule_text.proofs.HaltLemmas.{no_name_of}
use Rattle.rule_text.proofs.parse_file.read_keep_kind.Goals as goal

pub returns-in-None-clause-none : goal.returns-in-None-clause-none
returns-in-None-clause-none c = no_name_of keep_word c.word_at.result.now (first_word (words_at c.args.tokens.now c.args.at.now)) c.keep_kind.result c.keep_kind.ensures c.in-None.is c.word_at.ensures
