use Rattle.bind_law.proofs.Unbinding.{nothing_bindable}
use Rattle.bind_law.proofs.bound_law.nothing_bindable_law.Goals as goal

pub returns : goal.returns
returns g = nothing_bindable
