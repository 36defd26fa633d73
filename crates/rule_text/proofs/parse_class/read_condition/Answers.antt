use Rattle.std.proofs.Common.{rules, tests}
use Rattle.rule_text.specs.Steps.{words_at}
use Rattle.rule_text.proofs.ConditionLemmas.{class_mark, class_access, no_kind}
use Rattle.rule_text.proofs.RefusalLemmas.{passed}
use Rattle.rule_text.proofs.ClassRefusals.{kind_follows, no_mark_head}
use Rattle.rule_text.proofs.parse_class.read_condition.Goals as goal

pub returns-in-Some-clause-step : goal.returns-in-Some-clause-step
returns-in-Some-clause-step c = class_mark c.args.tokens.now c.args.at.now c.read_mark.new.at c.in-Some.mark (search rules)
    (no_kind c.args.tokens.now c.args.at.now c.word_at.result.now c.class_kind.result c.class_kind.ensures c.word_at.ensures (search (rules, tests)))

pub returns-in-Some-read_access-clause-step : goal.returns-in-Some-read_access-clause-step
returns-in-Some-read_access-clause-step c = class_access c.args.tokens.now c.args.at.now c.read_access.new.at c.in-Some-read_access.negated c.in-Some-read_access.access (search rules) (search rules)

pub returns-then-is_some-clause-none : goal.returns-then-is_some-clause-none
returns-then-is_some-clause-none c =
    kind_follows (words_at c.args.tokens.now c.args.at.now) c.word_at.result.now c.class_kind.result c.class_kind.ensures c.word_at.ensures (search (rules, tests))

pub returns-in_err-mark-clause-halt : goal.returns-in_err-mark-clause-halt
returns-in_err-mark-clause-halt c =
    passed c.from_residual.result c.in_err-mark.field-0.0 c.from_residual.ensures.1 (no_mark_head c.args.tokens.now c.args.at.now c.read_mark.new.at) c.in_err-mark.ensures.stop
