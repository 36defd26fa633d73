use Rattle.name_bridge.proofs.Tables.{sound}
use Rattle.name_bridge.proofs.Classes.{class_by_number, method_by_number, field_by_number}
use Rattle.name_bridge.proofs.laws.classes_law.Goals as goal

pub returns : goal.returns
returns c = record {
  classes = λ p k h. class_by_number p (sound p h) k;
  methods = λ p i c n q h. method_by_number p (sound p h) i c n q;
  fields = λ p i c n k h. field_by_number p (sound p h) i c n k;
}
