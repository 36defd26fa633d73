use Rattle.std.proofs.Common.{◌<◌, ◌≤◌, ℕ, slice_index}
use Rattle.hierarchy.specs.Climbing.{In, ups}
use Rattle.hierarchy.proofs.cycle.all_rise.Given as goal

abbrev pub invariant-loop-class : goal.invariant-loop-class
invariant-loop-class l = (c u : ℕ) → c < l.class → In u (ups l.supers l.lists.rows c) → slice_index l.levels c ≤ slice_index l.levels u
