use Rattle.std.proofs.Common.{rules, false, tests}
use Rattle.rule_text.proofs.MemberLemmas.{what_field, what_method}
use Rattle.rule_text.proofs.RefusalLemmas.{passed}
use Rattle.rule_text.proofs.LineRefusals.{untyped, unnamed_behind, in_arguments_of, from_member, behind_field, behind_method}
use Rattle.rule_text.proofs.parse_member.read_typed.Goals as goal

pub returns-then-ne-clause-step : goal.returns-then-ne-clause-step
returns-then-ne-clause-step c none = what_field c.args.tokens.now c.args.at.now c.read_type.new.at c.read_name.new.at c.in_ok-kind.kind c.in_ok-name.name none (search rules) (search rules)

pub returns-clause-step : goal.returns-clause-step
returns-clause-step c none = what_method c.args.tokens.now c.args.at.now c.read_type.new.at c.read_name.new.at c.read_arguments.new.at c.in_ok-kind.kind c.in_ok-name.name c.in_ok-arguments.arguments none (search rules) (search rules) (search rules)

pub returns-in_err-kind-clause-halt : goal.returns-in_err-kind-clause-halt
returns-in_err-kind-clause-halt c line =
    passed c.from_residual.result c.in_err-kind.field-0.0 c.from_residual.ensures.1 (untyped c.args.tokens.now c.args.at.now c.read_type.new.at line) c.in_err-kind.ensures.stop

pub returns-in_err-name-clause-halt : goal.returns-in_err-name-clause-halt
returns-in_err-name-clause-halt c line =
    passed c.from_residual-in_err-name.result c.in_err-name.field-0.0 c.from_residual-in_err-name.ensures.1 (unnamed_behind false c.args.tokens.now c.args.at.now c.read_type.new.at c.read_name.new.at c.in_ok-kind.kind (search rules) line.typed) c.in_err-name.ensures.stop

pub returns-in_err-arguments-clause-halt : goal.returns-in_err-arguments-clause-halt
returns-in_err-arguments-clause-halt c line =
    passed c.from_residual-in_err-arguments.result c.in_err-arguments.field-0.0 c.from_residual-in_err-arguments.ensures.1 (λ r. in_arguments_of false c.args.tokens.now c.args.at.now c.read_type.new.at c.read_name.new.at c.read_arguments.new.at c.in_ok-kind.kind c.in_ok-name.name (search rules) (search rules) line.typed.bare
    (from_member false c.args.tokens.now c.read_name.new.at c.read_arguments.new.at c.word_at.result.now (search rules) (search (rules, tests)) r)) (c.in_err-arguments.ensures.halt false)

pub returns-then-ne-clause-last : goal.returns-then-ne-clause-last
returns-then-ne-clause-last c line =
    behind_field c.args.tokens.now c.args.at.now c.read_type.new.at c.read_name.new.at c.in_ok-kind.kind c.in_ok-name.name c.word_at.result.now (search rules) (search rules) line.typed.bare (search rules) (search (rules, tests))

pub returns-clause-last : goal.returns-clause-last
returns-clause-last c line =
    behind_method false c.args.tokens.now c.args.at.now c.read_type.new.at c.read_name.new.at c.read_arguments.new.at c.in_ok-kind.kind c.in_ok-name.name c.in_ok-arguments.arguments (search rules) (search rules) (search rules) line.typed.bare
