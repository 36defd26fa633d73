use Rattle.dalvik_state.proofs.Showing.{AreDrafting}
use Rattle.dalvik_state.proofs.shows.draft_all.Given as goal

abbrev pub invariant-loop-kind : goal.invariant-loop-kind
invariant-loop-kind l = AreDrafting l.tables.lookups l.world l.kinds l.values l.kind-index l.at l.drafts.items
