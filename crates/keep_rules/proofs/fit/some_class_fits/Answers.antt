use Rattle.keep_rules.proofs.EachLemmas.{any_end, any_found, any_passed}
use Rattle.rule_text.specs.Related.{IsPatternOf}
use Rattle.rule_defs.specs.Patterns.{class_name_fits}
use Rattle.keep_rules.proofs.fit.some_class_fits.Goals as goal

pub returns-then-fits : goal.returns-then-fits
returns-then-fits c = λ ws are. any_found IsPatternOf (λ w. class_name_fits w c.args.descriptor.now) c.args.patterns.now ws c.loop-pattern.pattern-index _ _ are c.loop-pattern-test.true c.pattern-item.is (c.in_ok-fits.ensures) c.if-fits.true (c.loop-pattern.invariant ws are)

pub loop-pattern-preserved : goal.loop-pattern-preserved
loop-pattern-preserved c = λ ws are. any_passed IsPatternOf (λ w. class_name_fits w c.args.descriptor.now) c.args.patterns.now ws c.loop-pattern.pattern-index _ _ are c.loop-pattern-test.true c.pattern-item.is (c.in_ok-fits.ensures) c.if-fits.false (c.loop-pattern.invariant ws are)

pub returns : goal.returns
returns c = λ ws are. any_end IsPatternOf (λ w. class_name_fits w c.args.descriptor.now) c.args.patterns.now ws _ are c.loop-pattern-test.false (c.loop-pattern.invariant ws are)
