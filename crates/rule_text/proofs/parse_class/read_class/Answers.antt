use Rattle.std.proofs.Common.{rules, false}
use Rattle.rule_text.proofs.ClassLemmas.{class_of}
use Rattle.rule_text.proofs.RefusalLemmas.{passed}
use Rattle.rule_text.proofs.ClassRefusals.{behind_head, behind_names, behind_above, class_whole}
use Rattle.rule_text.proofs.parse_class.read_class.Goals as goal

pub returns-clause-step : goal.returns-clause-step
returns-clause-step c = class_of c.args.tokens.now c.args.at.now c.read_head.new.at c.read_names.new.at c.read_above.new.at c.read_braces.new.at _ (search rules) (search rules) (search rules) (search rules)

pub returns-in_err-names-clause-halt : goal.returns-in_err-names-clause-halt
returns-in_err-names-clause-halt c =
    passed c.from_residual-in_err-names.result c.in_err-names.field-0.0 c.from_residual-in_err-names.ensures.1 (behind_head c.args.tokens.now c.args.at.now c.read_head.new.at c.read_names.new.at c.in_ok-conditions.conditions.items c.in_ok-conditions.negated c.in_ok-conditions.kind (search rules)) (c.in_err-names.ensures.halt false)

pub returns-in_err-above-clause-halt : goal.returns-in_err-above-clause-halt
returns-in_err-above-clause-halt c =
    passed c.from_residual-in_err-above.result c.in_err-above.field-0.0 c.from_residual-in_err-above.ensures.1 (λ r. behind_head c.args.tokens.now c.args.at.now c.read_head.new.at c.read_above.new.at c.in_ok-conditions.conditions.items c.in_ok-conditions.negated c.in_ok-conditions.kind (search rules) (behind_names false c.args.tokens.now c.read_head.new.at c.read_names.new.at c.read_above.new.at c.in_ok-names.names.items (search rules) r)) c.in_err-above.ensures.halt

pub returns-in_err-members-clause-halt : goal.returns-in_err-members-clause-halt
returns-in_err-members-clause-halt c =
    passed c.from_residual-in_err-members.result c.in_err-members.field-0.0 c.from_residual-in_err-members.ensures.1 (λ r. behind_head c.args.tokens.now c.args.at.now c.read_head.new.at c.read_braces.new.at c.in_ok-conditions.conditions.items c.in_ok-conditions.negated c.in_ok-conditions.kind (search rules) (behind_names false c.args.tokens.now c.read_head.new.at c.read_names.new.at c.read_braces.new.at c.in_ok-names.names.items (search rules)
    (behind_above c.args.tokens.now c.read_names.new.at c.read_above.new.at c.read_braces.new.at c.in_ok-above.above (search rules) (search rules) r))) c.in_err-members.ensures.halt

pub returns-clause-whole : goal.returns-clause-whole
returns-clause-whole c =
    class_whole c.args.tokens.now c.args.at.now c.read_head.new.at c.read_names.new.at c.read_above.new.at c.read_braces.new.at
    (record { conditions = c.in_ok-conditions.conditions; negated = c.in_ok-conditions.negated; kind = c.in_ok-conditions.kind; names = c.in_ok-names.names; above = c.in_ok-above.above; members = c.in_ok-members.members })
    (search rules) (search rules) (search rules) (search rules) (search rules) (search rules) (search rules) (search rules) (search rules)
