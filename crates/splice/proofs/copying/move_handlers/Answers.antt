use Rattle.std.proofs.Common.{arith}
use Rattle.pass_defs.specs.Thinned.{handler_moved}
use Rattle.splice.specs.Shifted.{place_in}
use Rattle.splice.proofs.Each.{each_more}
use Rattle.splice.proofs.copying.move_handlers.Goals as goal

pub loop-handler-preserved : goal.loop-handler-preserved
loop-handler-preserved c = each_more (handler_moved (place_in c.args.places.now)) c.args.handlers.now c.loop-handler.handlers c.loop-handler.handler-index _ _ (omega arith) c.loop-handler.invariant c.move_handler.ensures
