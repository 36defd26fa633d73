use Rattle.std.proofs.Common.{arith}
use Rattle.rule_match.proofs.GlobLemmas.{behind_out}
use Rattle.rule_match.proofs.glob.behind_head.Goals as goal

pub returns-in_default-clause-none : goal.returns-in_default-clause-none
returns-in_default-clause-none c = let h = c.in_default.len_below in behind_out c.args.named c.args.text.now c.args.head.now c.loop-wanted.rest.now c.loop-wanted.wanted-index c.loop-wanted.invariant c.loop-wanted-test.true (omega (arith, h))
