use Rattle.dalvik_state.proofs.Room.{room_more}
use Rattle.dalvik_state.proofs.shows.show_first.Goals as goal

pub returns-in-Some-clause-room : goal.returns-in-Some-clause-room
returns-in-Some-clause-room c = λ count r. c.print.ensures.room count (room_more c.args.world.now count r)
