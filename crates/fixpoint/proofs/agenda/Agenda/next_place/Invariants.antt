use Rattle.std.specs.BinaryHeap.{heap_len}
use Rattle.fixpoint.proofs.agenda.Agenda.next_place.Given as goal

abbrev pub decreases-loop-turn : goal.decreases-loop-turn
decreases-loop-turn l = heap_len l.self.turns
