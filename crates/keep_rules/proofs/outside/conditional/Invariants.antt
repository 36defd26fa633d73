use Rattle.std.proofs.Common.{◌≡◌, ◌<◌, ℕ, drop}
use Rattle.std.specs.Prelude.{All, ◌||◌}
use Rattle.keep_rules.specs.Table.{has_pair}
use Rattle.keep_rules.specs.Described.{has_both}
use Rattle.keep_rules.proofs.outside.conditional.Given as goal

abbrev pub invariant-loop-class : goal.invariant-loop-class
invariant-loop-class l = record {
  classes : All (λ pair. pair.class < l.size) l.out;
  owners : All (λ pair. pair.owner < l.size) l.out;
  pairs : (n k : ℕ) → n < l.size → k < l.size → (has_pair l.out n k || has_both (drop l.class-index l.pairs) n k) ≡ has_both l.pairs n k;
}
