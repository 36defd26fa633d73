use Rattle.dead_code.specs.Dead.{AreQuiet}
use Rattle.dead_code.proofs.quiet.quiet_fields.Given as goal

abbrev pub invariant-loop-field : goal.invariant-loop-field
invariant-loop-field l = AreQuiet l.hierarchy l.field l.quiet.items
