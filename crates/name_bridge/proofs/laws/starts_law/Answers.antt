use Rattle.name_bridge.proofs.Tables.{sound}
use Rattle.name_bridge.proofs.Started.{initialiser_by_number, trivial_by_number}
use Rattle.name_bridge.proofs.laws.starts_law.Goals as goal

pub returns : goal.returns
returns c = record {
  initialisers = initialiser_by_number;
  trivial = λ p t c h once. trivial_by_number p (sound p h) once t c;
}
