use Rattle.std.proofs.Common.{rules}
use Rattle.rule_text.proofs.EntryLemmas.{keep_behind}
use Rattle.rule_text.proofs.RefusalLemmas.{passed}
use Rattle.rule_text.proofs.EntryRefusals.{in_class, keep_whole}
use Rattle.rule_text.proofs.parse_file.read_keep.Goals as goal

pub returns-clause-step : goal.returns-clause-step
returns-clause-step c = keep_behind c.args.tokens.now c.args.at.now c.read_modifiers.new.at c.read_class.new.at _ (search rules) (search rules)

pub returns-in_err-class-clause-refused : goal.returns-in_err-class-clause-refused
returns-in_err-class-clause-refused c =
    passed c.from_residual-in_err-class.result c.in_err-class.field-0.0 c.from_residual-in_err-class.ensures.1 (in_class c.args.tokens.now c.args.at.now c.read_modifiers.new.at c.read_class.new.at c.in_ok-modifiers.modifiers.items (search rules) (search rules)) c.in_err-class.ensures.halt

pub returns-clause-whole : goal.returns-clause-whole
returns-clause-whole c =
    keep_whole c.args.tokens.now c.args.at.now c.read_modifiers.new.at c.read_class.new.at c.in_ok-modifiers.modifiers.items (search rules) (search rules)
