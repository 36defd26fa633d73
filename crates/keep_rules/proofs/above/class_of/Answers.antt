use Rattle.std.proofs.Common.{◌∙◌, ap}
use Rattle.std.specs.Prelude.{option_and_then, slice_get}
use Rattle.keep_rules.proofs.above.class_of.Goals as goal

pub returns-in-Some : goal.returns-in-Some
returns-in-Some c = λ of. c.class_at.ensures ∙ ap (option_and_then (slice_get c.args.view.now.program.now.classes)) (c.in-Some.ensures of)

pub returns-in-None : goal.returns-in-None
returns-in-None c = λ of. ap (option_and_then (slice_get c.args.view.now.program.now.classes)) (c.in-None.ensures of)
