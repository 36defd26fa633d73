use Rattle.rebind_law.proofs.Places.{by_places}
use Rattle.rebind_law.proofs.rebind_law.by_places_law.Goals as goal

pub returns : goal.returns
returns c = λ p numbers t k n f g h. by_places p numbers t k n f g h
