use Rattle.std.specs.Prelude.{◌≡◌, true}
use Rattle.form_laws.proofs.Programs.{in_place_always}
use Rattle.form_laws.proofs.place_law.place_law.Goals as goal

pub returns : goal.returns
returns c = λ p q o claims face place. in_place_always p q o (λ k n old new. claims k n old new ≡ true) face place
