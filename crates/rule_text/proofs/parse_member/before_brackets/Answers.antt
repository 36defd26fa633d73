use Rattle.std.proofs.Common.{rules, tests}
use Rattle.rule_text.proofs.LetterLemmas.{too_short, other_first, other_last}
use Rattle.rule_text.proofs.parse_member.before_brackets.Goals.{in_default-via-then-word-lt2, in_default-via-else-word-lt2+in-93+in_default-1, in_default-via-else-word-lt2+in_default-1}
use Rattle.rule_text.proofs.parse_member.before_brackets.Goals as goal

pub returns-in_default-clause-none : goal.returns-in_default-clause-none
returns-in_default-clause-none c = elim c.in_default.branch [
  | in_default-via-then-word-lt2 w ↦ too_short c.args.word.now (search rules)
  | in_default-via-else-word-lt2+in-93+in_default-1 w ↦ other_first c.args.word.now (search (rules, tests))
  | in_default-via-else-word-lt2+in_default-1 w ↦ other_last c.args.word.now (search (rules, tests))
]
