use Rattle.keep_rules.proofs.EachLemmas.{any_end, any_found, any_passed}
use Rattle.rule_text.specs.Related.{IsMemberOf}
use Rattle.dalvik_defs.specs.Naming.{named_field}
use Rattle.rule_defs.specs.Members.{matches_field}
use Rattle.keep_rules.proofs.members.some_line_of_field.Goals as goal

pub returns-then-fits : goal.returns-then-fits
returns-then-fits c = λ ms known are. any_found IsMemberOf (λ m. matches_field m (named_field c.args.program.now c.args.field.now)) c.args.lines.now ms c.loop-line.line-index _ _ are c.loop-line-test.true c.line-item.is (λ m is. c.in_ok-fits.ensures m known is) c.if-fits.true (c.loop-line.invariant ms known are)

pub loop-line-preserved : goal.loop-line-preserved
loop-line-preserved c = λ ms known are. any_passed IsMemberOf (λ m. matches_field m (named_field c.args.program.now c.args.field.now)) c.args.lines.now ms c.loop-line.line-index _ _ are c.loop-line-test.true c.line-item.is (λ m is. c.in_ok-fits.ensures m known is) c.if-fits.false (c.loop-line.invariant ms known are)

pub returns : goal.returns
returns c = λ ms known are. any_end IsMemberOf (λ m. matches_field m (named_field c.args.program.now c.args.field.now)) c.args.lines.now ms _ are c.loop-line-test.false (c.loop-line.invariant ms known are)
