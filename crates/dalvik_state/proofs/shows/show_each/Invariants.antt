use Rattle.dalvik_state.proofs.Showing.{IsEach}
use Rattle.dalvik_state.proofs.shows.show_each.Given as goal

abbrev pub invariant-loop-draft : goal.invariant-loop-draft
invariant-loop-draft l = IsEach l.initial.world l.world l.initial.shown l.shown l.yielded
