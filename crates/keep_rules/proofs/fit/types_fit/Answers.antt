use native.Mathlib.Omega.{arith}
use Rattle.std.proofs.Common.{◌∙◌, ap, get_or}
use Rattle.dalvik_defs.specs.Naming.{type_at}
use Rattle.rule_defs.specs.Patterns.{type_fits}
use Rattle.keep_rules.proofs.FitLemmas.{read_same, types_unequal, types_failed, types_passed, types_end}
use Rattle.keep_rules.proofs.fit.types_fit.Goals as goal

pub returns-then-patterns-kinds : goal.returns-then-patterns-kinds
returns-then-patterns-kinds c = λ ws are. types_unequal (type_at c.args.program.now) c.args.patterns.now ws c.args.kinds.now are c.if-patterns-kinds.true

pub returns-then-not-fits : goal.returns-then-not-fits
returns-then-not-fits c = λ ws are.
    types_failed (type_at c.args.program.now) c.args.patterns.now ws c.args.kinds.now are c.loop-place.place c.index-patterns-place.result (get_or c.args.kinds.now c.loop-place.place 0) c.in_ok-fits.fits
    c.loop-place-test.true (omega (arith, c.loop-place-test.true, c.if-patterns-kinds.false)) c.index-patterns-place.is (read_same c.args.kinds.now c.loop-place.place 0 (omega (arith, c.loop-place-test.true, c.if-patterns-kinds.false)))
    (λ w is. c.in_ok-fits.ensures w is ∙ ap (type_fits w) c.descriptor.ensures) c.if-not-fits.true (c.loop-place.invariant ws are)

pub loop-place-preserved : goal.loop-place-preserved
loop-place-preserved c = λ ws are.
    types_passed (type_at c.args.program.now) c.args.patterns.now ws c.args.kinds.now are c.loop-place.place c.index-patterns-place.result (get_or c.args.kinds.now c.loop-place.place 0) c.in_ok-fits.fits
    c.loop-place-test.true (omega (arith, c.loop-place-test.true, c.if-patterns-kinds.false)) c.index-patterns-place.is (read_same c.args.kinds.now c.loop-place.place 0 (omega (arith, c.loop-place-test.true, c.if-patterns-kinds.false)))
    (λ w is. c.in_ok-fits.ensures w is ∙ ap (type_fits w) c.descriptor.ensures) c.if-not-fits.false (c.loop-place.invariant ws are)

pub returns : goal.returns
returns c = λ ws are. types_end (type_at c.args.program.now) c.args.patterns.now ws c.args.kinds.now are c.loop-place.place c.loop-place-test.false (omega (arith, c.loop-place-test.false, c.if-patterns-kinds.false)) (c.loop-place.invariant ws are)
