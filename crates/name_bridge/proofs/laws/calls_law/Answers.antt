use Rattle.name_bridge.proofs.Tables.{sound}
use Rattle.name_bridge.proofs.Resolved.{resolves_by_number, static_by_number, super_by_number}
use Rattle.name_bridge.proofs.laws.calls_law.Goals as goal

pub returns : goal.returns
returns c = record {
  resolves = λ p m h. resolves_by_number p (sound p h) m;
  statically = λ p m h. static_by_number p (sound p h) m;
  above = λ p r c m k h once hr own is. super_by_number p (sound p h) once r c hr own k is m;
}
