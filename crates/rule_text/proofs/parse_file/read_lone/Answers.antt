use Rattle.std.proofs.Common.{not}
use Rattle.rule_text.specs.Spelling.{is_long, setting_word}
use Rattle.rule_text.specs.Steps.{words_at, first_word}
use Rattle.rule_text.proofs.HaltLemmas.{no_among}
use Rattle.rule_text.proofs.EntryRefusals.{lone_name}
use Rattle.rule_text.proofs.parse_file.read_lone.Goals as goal

pub returns-in-None-clause-none : goal.returns-in-None-clause-none
returns-in-None-clause-none c = no_among (λ name. not (is_long name)) setting_word c.word_at.result.now (first_word (words_at c.args.tokens.now c.args.at.now)) c.lone_setting.result c.lone_setting.ensures c.in-None.is c.word_at.ensures

pub returns-in-Some-clause-lone : goal.returns-in-Some-clause-lone
returns-in-Some-clause-lone c =
    lone_name c.word_at.result.now c.lone_setting.result c.in-Some.name c.lone_setting.ensures c.in-Some.is
