use Rattle.std.proofs.Common.{rules, true}
use Rattle.rule_text.proofs.EntryLemmas.{assume_behind}
use Rattle.rule_text.proofs.RefusalLemmas.{passed, anyway}
use Rattle.rule_text.proofs.ClassRefusals.{behind_names}
use Rattle.rule_text.proofs.EntryRefusals.{no_class_word, in_names, in_members, assume_whole}
use Rattle.rule_text.proofs.parse_file.read_assume.Goals as goal

pub returns-clause-step : goal.returns-clause-step
returns-clause-step c = assume_behind c.args.tokens.now c.args.at.now c.expect_word.new.at c.read_names.new.at c.read_assumed_members.new.at _ (search rules) (search rules) (search rules)

pub returns-in_err-expect_word-clause-refused : goal.returns-in_err-expect_word-clause-refused
returns-in_err-expect_word-clause-refused c =
    anyway c.from_residual.result (no_class_word c.args.tokens.now c.args.at.now c.expect_word.new.at (search rules) (search rules))

pub returns-in_err-names-clause-refused : goal.returns-in_err-names-clause-refused
returns-in_err-names-clause-refused c =
    passed c.from_residual-in_err-names.result c.in_err-names.field-0.0 c.from_residual-in_err-names.ensures.1 (in_names c.args.tokens.now c.args.at.now c.expect_word.new.at c.read_names.new.at (search rules)) (c.in_err-names.ensures.halt true)

pub returns-in_err-members-clause-refused : goal.returns-in_err-members-clause-refused
returns-in_err-members-clause-refused c =
    passed c.from_residual-in_err-members.result c.in_err-members.field-0.0 c.from_residual-in_err-members.ensures.1 (λ r. in_names c.args.tokens.now c.args.at.now c.expect_word.new.at c.read_assumed_members.new.at (search rules) (behind_names true c.args.tokens.now c.expect_word.new.at c.read_names.new.at c.read_assumed_members.new.at c.in_ok-names.names.items (search rules)
    (in_members c.args.tokens.now c.read_names.new.at c.read_assumed_members.new.at (search rules) r))) c.in_err-members.ensures.halt

pub returns-clause-whole : goal.returns-clause-whole
returns-clause-whole c =
    assume_whole c.args.tokens.now c.args.at.now c.expect_word.new.at c.read_names.new.at c.read_assumed_members.new.at c.in_ok-names.names.items c.in_ok-members.members.items (search rules) (search rules) (search rules)
