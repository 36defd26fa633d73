use Rattle.keep_rules.proofs.EachLemmas.{all_end, all_failed, all_passed}
use Rattle.rule_text.specs.Related.{IsMemberOf}
use Rattle.dalvik_defs.specs.Naming.{named_class}
use Rattle.rule_defs.specs.Kept.{has_match}
use Rattle.keep_rules.proofs.members.has_each_line.Goals as goal

pub returns-then-not-has : goal.returns-then-not-has
returns-then-not-has c = λ ms known are. all_failed IsMemberOf (has_match (named_class c.args.program.now c.args.class.now)) c.args.lines.now ms c.loop-line.line-index _ _ are c.loop-line-test.true c.line-item.is (λ m is. c.in_ok-has.ensures m known is) c.if-not-has.true (c.loop-line.invariant ms known are)

pub loop-line-preserved : goal.loop-line-preserved
loop-line-preserved c = λ ms known are. all_passed IsMemberOf (has_match (named_class c.args.program.now c.args.class.now)) c.args.lines.now ms c.loop-line.line-index _ _ are c.loop-line-test.true c.line-item.is (λ m is. c.in_ok-has.ensures m known is) c.if-not-has.false (c.loop-line.invariant ms known are)

pub returns : goal.returns
returns c = λ ms known are. all_end IsMemberOf (has_match (named_class c.args.program.now c.args.class.now)) c.args.lines.now ms _ are c.loop-line-test.false (c.loop-line.invariant ms known are)
