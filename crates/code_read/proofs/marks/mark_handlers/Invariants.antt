use Rattle.std.proofs.Common.{◌≡◌, drop}
use Rattle.code_read.specs.Marks.{set_handlers}
use Rattle.code_read.proofs.marks.mark_handlers.Given as goal

abbrev pub invariant-loop-handler : goal.invariant-loop-handler
invariant-loop-handler l = set_handlers l.marks (drop l.handler-index l.handlers) ≡ set_handlers l.initial.marks l.handlers
