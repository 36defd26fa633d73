use Rattle.std.proofs.Common.{rules}
use Rattle.rule_text.proofs.FrontLemmas.{comment_at, run_at}
use Rattle.rule_text.proofs.lexer.read_front.Goals as goal

pub returns-then-first-eq35-clause-tells : goal.returns-then-first-eq35-clause-tells
returns-then-first-eq35-clause-tells c = comment_at c.args.text.now c.comment_len.result c.in-len1-up.len_at_least (search rules) c.comment_len.ensures.value

pub returns-else-is_mark-clause-tells : goal.returns-else-is_mark-clause-tells
returns-else-is_mark-clause-tells c = run_at c.args.text.now c.run_len-len.result c.in-len1-up.len_at_least (search rules) c.run_len-len.ensures.value
