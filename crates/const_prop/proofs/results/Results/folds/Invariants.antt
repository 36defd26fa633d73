use Rattle.std.specs.Prelude.{All}
use Rattle.const_prop.specs.Folded.{IsFound}
use Rattle.const_prop.proofs.Invariants.{FoldsSo}
use Rattle.const_prop.proofs.results.Results.folds.Given as goal

abbrev pub invariant-loop-place : goal.invariant-loop-place
invariant-loop-place l = record { found : All (IsFound l.code.body.now) l.folds.items; are : FoldsSo l.self l.code l.place l.folds.items }
