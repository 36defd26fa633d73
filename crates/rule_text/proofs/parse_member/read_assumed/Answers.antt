use Rattle.std.proofs.Common.{rules}
use Rattle.rule_text.specs.Spelling.{is_plain_condition, is_assumed_what}
use Rattle.rule_text.proofs.MemberLemmas.{line_of}
use Rattle.rule_text.proofs.RefusalLemmas.{passed, anyway}
use Rattle.rule_text.proofs.LineRefusals.{behind_accesses, unended_assumed}
use Rattle.rule_text.proofs.parse_member.read_assumed.Goals as goal

pub returns-clause-step : goal.returns-clause-step
returns-clause-step c = line_of is_plain_condition is_assumed_what c.args.tokens.now c.args.at.now c.read_accesses.new.at c.read_assumed_what.new.at c.expect_word.new.at _ (search rules) (search rules) (search rules)

pub returns-in_err-what-clause-halt : goal.returns-in_err-what-clause-halt
returns-in_err-what-clause-halt c =
    passed c.from_residual-in_err-what.result c.in_err-what.field-0.0 c.from_residual-in_err-what.ensures.1 (behind_accesses c.args.tokens.now c.args.at.now c.read_accesses.new.at c.read_assumed_what.new.at c.in_ok-conditions.conditions.items (search rules)) (c.in_err-what.ensures.halt c.in_ok-conditions.ensures.bare)

pub returns-in_err-expect_word-clause-halt : goal.returns-in_err-expect_word-clause-halt
returns-in_err-expect_word-clause-halt c =
    anyway c.from_residual-in_err-expect_word.result (unended_assumed c.args.tokens.now c.args.at.now c.read_accesses.new.at c.read_assumed_what.new.at c.expect_word.new.at c.in_ok-conditions.conditions.items (search rules) (c.in_ok-what.ensures.last c.in_ok-conditions.ensures.bare) (search rules) (search rules))
