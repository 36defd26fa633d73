use Rattle.std.proofs.Common.{ℕ, ◌<◌, ◌*◌}
use Rattle.std.specs.Prelude.{IsTrue}
use Rattle.code_read.specs.Regions.{try_at, names_up_to}
use Rattle.code_read.proofs.try_items.greatest_offset.Given as goal

abbrev pub invariant-loop-place : goal.invariant-loop-place
invariant-loop-place l = (k : ℕ) → k < l.place → IsTrue (names_up_to l.most (try_at l.tries (8 * k)))
