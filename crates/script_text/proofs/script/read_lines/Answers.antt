use Rattle.script_text.proofs.ScriptLemmas.{number_fits}
use Rattle.script_text.proofs.script.read_lines.Goals as goal

pub line_number-requires : goal.line_number-requires
line_number-requires c = number_fits c.args.lines.now c.loop-place.place c.loop-place.play _ c.requires c.loop-place-test.true (rw c.in-Ok-false.field-0-test at c.in-Ok-false.ensures.said)
