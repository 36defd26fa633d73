use Rattle.std.proofs.Common.{rules}
use Rattle.rule_text.specs.Spelling.{is_member_condition, is_what}
use Rattle.rule_text.proofs.MemberLemmas.{line_of}
use Rattle.rule_text.proofs.RefusalLemmas.{passed, anyway}
use Rattle.rule_text.proofs.LineRefusals.{behind_conditions, unended_line}
use Rattle.rule_text.proofs.parse_member.read_member.Goals as goal

pub returns-clause-step : goal.returns-clause-step
returns-clause-step c = line_of is_member_condition is_what c.args.tokens.now c.args.at.now c.read_conditions.new.at c.read_what.new.at c.expect_word.new.at _ (search rules) (search rules) (search rules)

pub returns-in_err-what-clause-halt : goal.returns-in_err-what-clause-halt
returns-in_err-what-clause-halt c =
    passed c.from_residual-in_err-what.result c.in_err-what.field-0.0 c.from_residual-in_err-what.ensures.1 (behind_conditions c.args.tokens.now c.args.at.now c.read_conditions.new.at c.read_what.new.at c.in_ok-conditions.conditions.items (search rules)) (c.in_err-what.ensures.halt c.in_ok-conditions.ensures.named)

pub returns-in_err-expect_word-clause-halt : goal.returns-in_err-expect_word-clause-halt
returns-in_err-expect_word-clause-halt c =
    anyway c.from_residual-in_err-expect_word.result (unended_line c.args.tokens.now c.args.at.now c.read_conditions.new.at c.read_what.new.at c.expect_word.new.at c.in_ok-conditions.conditions.items (search rules) (c.in_ok-what.ensures.last c.in_ok-conditions.ensures.named) (search rules) (search rules))
