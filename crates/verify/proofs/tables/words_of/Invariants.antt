use Rattle.std.proofs.Common.{◌≡◌, take}
use Rattle.std.specs.Prelude.{sum_by}
use Rattle.verify.specs.Descriptors.{short, width_in}
use Rattle.verify.proofs.tables.words_of.Given as goal

abbrev pub invariant-loop-kind : goal.invariant-loop-kind
invariant-loop-kind l = l.words ≡ short (sum_by (width_in l.shapes) (take l.kind-index l.kinds))
