use Rattle.std.proofs.Common.{rules, refl}
use Rattle.rule_text.proofs.ClassLemmas.{head_of}
use Rattle.rule_text.proofs.RefusalLemmas.{anyway}
use Rattle.rule_text.proofs.ClassRefusals.{no_kind_behind}
use Rattle.rule_text.proofs.parse_class.read_head.Goals as goal

pub returns-clause-step : goal.returns-clause-step
returns-clause-step c = head_of c.args.tokens.now c.args.at.now c.read_conditions.new.at c.accept-negated.new.at c.read_kind.new.at c.in_ok-conditions.conditions.items c.accept-negated.result c.in_ok-kind.kind
    (search rules) c.accept-negated.ensures.step c.accept-negated.ensures.stays (search rules)

pub returns-in_err-kind-clause-halt : goal.returns-in_err-kind-clause-halt
returns-in_err-kind-clause-halt c =
    anyway c.from_residual-in_err-kind.result (no_kind_behind c.args.tokens.now c.args.at.now c.read_conditions.new.at c.accept-negated.new.at c.read_kind.new.at c.in_ok-conditions.conditions.items c.accept-negated.result (search rules) (search rules)
    c.accept-negated.ensures.step c.accept-negated.ensures.stays c.accept-negated.ensures.otherwise (c.in_err-kind.ensures.stays refl).0 (c.in_err-kind.ensures.stays refl).1)
