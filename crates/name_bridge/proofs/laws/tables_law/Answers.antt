use Rattle.name_bridge.proofs.Tables.{sound, text_once, type_once, signature_once, field_once, method_once}
use Rattle.name_bridge.proofs.laws.tables_law.Goals as goal

pub returns : goal.returns
returns c = record {
  texts = λ p i j h. text_once p (sound p h) i j;
  types = λ p i j h. type_once p (sound p h) i j;
  signatures = λ p i j h. signature_once p (sound p h) i j;
  fields = λ p i j h. field_once p (sound p h) i j;
  methods = λ p i j h. method_once p (sound p h) i j;
}
