use Rattle.std.proofs.Common.{rules}
use Rattle.rule_text.proofs.parse_class.read_above_word.Goals as goal

pub returns-else-accept-2-clause-none : goal.returns-else-accept-2-clause-none
returns-else-accept-2-clause-none c =
    record { extends = search rules; implements = search rules }
