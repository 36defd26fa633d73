use Rattle.dalvik_moves.proofs.Shuffled.{shuffled_then}
use Rattle.dalvik_moves.proofs.touching.makes_room.Goals as goal

pub returns-clause-same : goal.returns-clause-same
returns-clause-same c = shuffled_then c.args.world.now c.field_room.new.world c.reserve.new.world c.field_room.ensures.same c.reserve.ensures.same
