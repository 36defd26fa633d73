use Rattle.std.proofs.Common.{◌≡◌, [], sym, subst, rules}
use Rattle.rule_text.specs.Reads.{Reads}
use Rattle.rule_text.specs.Related.{AreEach, IsTypeOf}
use Rattle.rule_text.specs.Spelling.{are_some, is_argument, separated}
use Rattle.rule_text.specs.declared.rules.Arguments.TheVariants as arguments
use Rattle.rule_text.proofs.ArgumentLemmas.{no_arguments, these_arguments}
use Rattle.rule_text.proofs.RefusalLemmas.{passed, anyway}
use Rattle.rule_text.proofs.LineRefusals.{unopened, behind_dots, in_types, unclosed}
use Rattle.rule_text.proofs.parse_member.read_arguments.Goals as goal

pub returns-then-accept-clause-step : goal.returns-then-accept-clause-step
returns-then-accept-clause-step c = no_arguments c.args.tokens.now c.args.at.now c.expect_word.new.at c.accept.new.at (arguments.These c.new.result) (search rules) (search rules) (subst (λ ts. AreEach IsTypeOf ts []) (sym c.new.ensures.items) tt)

pub returns-clause-step : goal.returns-clause-step
returns-clause-step c =
    let same : c.accept-2.new.at ≡ c.expect_word.new.at = search rules in
    these_arguments c.args.tokens.now c.args.at.now c.expect_word.new.at c.read_argument_types.new.at c.expect_word-2.new.at c.in_ok-types.types.items (arguments.These c.in_ok-types.types)
    (search rules) (subst (λ at. Reads (AreEach IsTypeOf) (are_some is_argument) separated c.args.tokens.now at c.read_argument_types.new.at c.in_ok-types.types.items) same (search rules)) (search rules) (λ ws each. each)

pub returns-in_err-expect_word-clause-halt : goal.returns-in_err-expect_word-clause-halt
returns-in_err-expect_word-clause-halt c assumed =
    anyway c.from_residual.result (unopened assumed c.args.tokens.now c.args.at.now c.expect_word.new.at (search rules) (search rules))

pub returns-in_err-expect_word-2-clause-halt : goal.returns-in_err-expect_word-2-clause-halt
returns-in_err-expect_word-2-clause-halt c assumed =
    anyway c.from_residual-in_err-expect_word-2.result (behind_dots assumed c.args.tokens.now c.args.at.now c.expect_word.new.at c.accept.new.at c.accept-2.new.at c.expect_word-then-accept-2.new.at (search rules) (search rules) (search rules) (search rules) (search rules))

pub returns-in_err-types-clause-halt : goal.returns-in_err-types-clause-halt
returns-in_err-types-clause-halt c assumed =
    passed c.from_residual-in_err-types.result c.in_err-types.field-0.0 c.from_residual-in_err-types.ensures.1 (in_types assumed c.args.tokens.now c.args.at.now c.expect_word.new.at c.accept.new.at c.accept-2.new.at c.read_argument_types.new.at (search rules) (search rules) (search rules) (search rules) (search rules)) (c.in_err-types.ensures.halt assumed)

pub returns-in_err-expect_word-3-clause-halt : goal.returns-in_err-expect_word-3-clause-halt
returns-in_err-expect_word-3-clause-halt c assumed =
    anyway c.from_residual-in_err-expect_word-3.result (unclosed assumed c.args.tokens.now c.args.at.now c.expect_word.new.at c.accept.new.at c.accept-2.new.at c.read_argument_types.new.at c.expect_word-2.new.at c.in_ok-types.types.items (search rules) (search rules) (search rules) (search rules) (search rules) (search rules) (search rules))
