use Rattle.std.proofs.Common.{◌∙◌, sym}
use Rattle.keep_rules.proofs.KeepLemmas.{stays, unmatched}
use Rattle.keep_rules.proofs.keep.keep_matching.Goals as goal

pub returns-then-not-fits : goal.returns-then-not-fits
returns-then-not-fits c = λ k is keeps under known. stays c.args.program.now k c.args.class.now c.args.marks.now (unmatched c.args.program.now k c.args.class.now c.in_ok-fits.fits (c.in_ok-fits.ensures k.class is.class under) c.if-not-fits.true)

pub returns : goal.returns
returns c = λ k is keeps under known. c.keep_class.ensures k is keeps (sym (c.in_ok-fits.ensures k.class is.class under) ∙ c.if-not-fits.false) known
