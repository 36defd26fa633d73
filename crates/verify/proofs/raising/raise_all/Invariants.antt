use Rattle.std.proofs.Common.{◌≡◌, take}
use Rattle.verify.specs.Flow.{raised_all, rises_any}
use Rattle.verify.proofs.raising.raise_all.Given as goal

abbrev pub invariant-loop-at : goal.invariant-loop-at
invariant-loop-at l = record {
  cells : l.cells ≡ raised_all l.tables (take l.at l.kinds) l.fn.cells;
  rose : l.rose ≡ rises_any l.tables (take l.at l.kinds) l.fn.cells;
}
