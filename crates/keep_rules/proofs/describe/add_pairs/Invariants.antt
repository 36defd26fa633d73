use Rattle.std.proofs.Common.{◌≡◌, ℕ, drop, nat_eq}
use Rattle.std.specs.Prelude.{◌&&◌, ◌||◌}
use Rattle.keep_rules.specs.Table.{has}
use Rattle.keep_rules.specs.Described.{has_both}
use Rattle.keep_rules.proofs.describe.add_pairs.Given as goal

abbrev pub invariant-loop-kind : goal.invariant-loop-kind
invariant-loop-kind l = (n k : ℕ) → (has_both l.pairs.items n k || (has (drop l.kind-index l.kinds) n && nat_eq k l.owner)) ≡ (has_both l.initial.pairs.items n k || (has l.kinds n && nat_eq k l.owner))
