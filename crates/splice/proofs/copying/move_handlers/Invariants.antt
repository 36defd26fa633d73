use Rattle.std.proofs.Common.{◌≡◌, map, take, drop, ◌++◌}
use Rattle.pass_defs.specs.Thinned.{handler_moved}
use Rattle.splice.specs.Shifted.{place_in}
use Rattle.splice.proofs.copying.move_handlers.Given as goal

abbrev pub invariant-loop-handler : goal.invariant-loop-handler
invariant-loop-handler l = l.handlers ≡ map (handler_moved (place_in l.places)) (take l.handler-index l.initial.handlers) ++ drop l.handler-index l.initial.handlers
