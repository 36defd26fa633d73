use Rattle.std.proofs.Common.{◌∙◌, ap}
use Rattle.rule_defs.specs.Patterns.{class_name_fits}
use Rattle.keep_rules.proofs.PlaceLemmas.{unasked, asked}
use Rattle.keep_rules.proofs.above.is_wanted.Goals as goal

pub returns-then-not-fits : goal.returns-then-not-fits
returns-then-not-fits c = λ a ready l is. unasked c.args.view.now.program.now a c.args.kind c.in_ok-fits.fits (c.in_ok-fits.ensures a.name is.name ∙ ap (class_name_fits a.name) c.descriptor.ensures) c.if-not-fits.true

pub returns : goal.returns
returns c = λ a ready l is. asked c.args.view.now.program.now a c.args.kind c.in_ok-fits.fits c.mark_holds_there.result (c.in_ok-fits.ensures a.name is.name ∙ ap (class_name_fits a.name) c.descriptor.ensures) c.if-not-fits.false (c.mark_holds_there.ensures a ready l is)
