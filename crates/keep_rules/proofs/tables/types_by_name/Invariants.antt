use Rattle.std.proofs.Common.{◌≡◌, List, ℕ}
use Rattle.keep_rules.specs.View.{kind_of, last_type}
use Rattle.keep_rules.proofs.tables.types_by_name.Given as goal

abbrev pub invariant-loop-kind : goal.invariant-loop-kind
invariant-loop-kind l = (t : List ℕ) → kind_of l.types t ≡ last_type l.program t l.kind
