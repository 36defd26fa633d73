use Rattle.std.proofs.Common.{◌≡◌, ◌<◌, ℕ, []}
use Rattle.copy_prop.specs.Propagated.{row_at}
use Rattle.copy_prop.proofs.looking.has_copies.Given as goal

abbrev pub invariant-loop-row : goal.invariant-loop-row
invariant-loop-row l = (n : ℕ) → n < l.row-index → row_at l.table n ≡ []
