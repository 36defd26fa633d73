use Rattle.static_law.proofs.Ordered.{ordered_typed}
use Rattle.static_law.proofs.static_types.ordered_typed_law.Goals as goal

pub returns : goal.returns
returns c = ordered_typed
