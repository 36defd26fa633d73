use Rattle.bind_law.proofs.Unbinding.{none_bindable}
use Rattle.bind_law.proofs.bound_law.none_bindable_law.Goals as goal

pub returns : goal.returns
returns g = none_bindable
