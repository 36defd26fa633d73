use Rattle.name_bridge.proofs.Tables.{sound}
use Rattle.name_bridge.proofs.Above.{chain_by_number, under_by_number}
use Rattle.name_bridge.proofs.laws.above_law.Goals as goal

pub returns : goal.returns
returns c = record {
  chain = λ p k h. chain_by_number p (sound p h) k;
  under = λ p u b c d h. under_by_number p (sound p h) u b c d;
}
