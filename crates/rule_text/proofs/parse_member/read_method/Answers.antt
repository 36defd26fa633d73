use Rattle.std.proofs.Common.{rules, true}
use Rattle.rule_text.proofs.MemberLemmas.{assumed_method}
use Rattle.rule_text.proofs.RefusalLemmas.{passed}
use Rattle.rule_text.proofs.LineRefusals.{untyped_method, unnamed_behind, in_arguments_of, from_method, behind_method}
use Rattle.rule_text.proofs.parse_member.read_method.Goals as goal

pub returns-clause-step : goal.returns-clause-step
returns-clause-step c none = assumed_method c.args.tokens.now c.args.at.now c.read_type.new.at c.read_name.new.at c.read_arguments.new.at c.in_ok-kind.kind c.in_ok-name.name c.in_ok-arguments.arguments none (search rules) (search rules) (search rules)

pub returns-in_err-kind-clause-halt : goal.returns-in_err-kind-clause-halt
returns-in_err-kind-clause-halt c typed =
    passed c.from_residual.result c.in_err-kind.field-0.0 c.from_residual.ensures.1 (untyped_method c.args.tokens.now c.args.at.now c.read_type.new.at typed) c.in_err-kind.ensures.stop

pub returns-in_err-name-clause-halt : goal.returns-in_err-name-clause-halt
returns-in_err-name-clause-halt c typed =
    passed c.from_residual-in_err-name.result c.in_err-name.field-0.0 c.from_residual-in_err-name.ensures.1 (unnamed_behind true c.args.tokens.now c.args.at.now c.read_type.new.at c.read_name.new.at c.in_ok-kind.kind (search rules) typed) c.in_err-name.ensures.stop

pub returns-in_err-arguments-clause-halt : goal.returns-in_err-arguments-clause-halt
returns-in_err-arguments-clause-halt c typed =
    passed c.from_residual-in_err-arguments.result c.in_err-arguments.field-0.0 c.from_residual-in_err-arguments.ensures.1 (λ r. in_arguments_of true c.args.tokens.now c.args.at.now c.read_type.new.at c.read_name.new.at c.read_arguments.new.at c.in_ok-kind.kind c.in_ok-name.name (search rules) (search rules) typed.bare (from_method c.args.tokens.now c.read_name.new.at c.read_arguments.new.at r)) (c.in_err-arguments.ensures.halt true)

pub returns-clause-last : goal.returns-clause-last
returns-clause-last c typed =
    behind_method true c.args.tokens.now c.args.at.now c.read_type.new.at c.read_name.new.at c.read_arguments.new.at c.in_ok-kind.kind c.in_ok-name.name c.in_ok-arguments.arguments (search rules) (search rules) (search rules) typed.bare
