use Rattle.std.proofs.Common.{rules}
use Rattle.rule_text.proofs.RunLemmas.{ends_there}
use Rattle.rule_text.proofs.lexer.whole_len.Goals as goal

pub returns-then-not-in_run-clause-whole : goal.returns-then-not-in_run-clause-whole
returns-then-not-in_run-clause-whole c = record {
  front = ends_there c.loop-len.len c.args.text.now (search rules) (search rules) (search rules);
  run = c.loop-len.invariant.1;
}
