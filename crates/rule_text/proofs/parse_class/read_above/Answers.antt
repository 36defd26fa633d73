use Rattle.std.proofs.Common.{rules}
use Rattle.rule_text.proofs.ClassLemmas.{none_above, above_of}
use Rattle.rule_text.proofs.RefusalLemmas.{passed}
use Rattle.rule_text.proofs.ClassRefusals.{no_mark_above, no_ancestor}
use Rattle.rule_text.proofs.parse_class.read_above.Goals as goal

pub returns-in_default-clause-step : goal.returns-in_default-clause-step
returns-in_default-clause-step c = none_above c.args.tokens.now c.args.at.now c.read_above_word.new.at (search rules)

pub returns-clause-step : goal.returns-clause-step
returns-clause-step c = above_of c.args.tokens.now c.args.at.now c.read_above_word.new.at c.read_mark.new.at c.read_name.new.at _ (search rules) (search rules) (search rules) (search rules)

pub returns-in_err-mark-clause-halt : goal.returns-in_err-mark-clause-halt
returns-in_err-mark-clause-halt c =
    passed c.from_residual.result c.in_err-mark.field-0.0 c.from_residual.ensures.1 (no_mark_above c.args.tokens.now c.args.at.now c.read_above_word.new.at c.read_mark.new.at c.in-Some.word (search rules)) c.in_err-mark.ensures.stop

pub returns-in_err-name-clause-halt : goal.returns-in_err-name-clause-halt
returns-in_err-name-clause-halt c =
    passed c.from_residual-in_err-name.result c.in_err-name.field-0.0 c.from_residual-in_err-name.ensures.1 (no_ancestor c.args.tokens.now c.args.at.now c.read_above_word.new.at c.read_mark.new.at c.read_name.new.at c.in-Some.word c.in_ok-mark.mark (search rules) (search rules) (search rules) (search rules)) c.in_err-name.ensures.stop
