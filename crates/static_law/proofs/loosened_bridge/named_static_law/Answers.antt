use Rattle.class_defs.proofs.WellFormed.{sound}
use Rattle.static_law.proofs.Programs.{new, named_now, same_methods}
use Rattle.static_law.proofs.loosened_bridge.named_static_law.Goals as goal

pub returns : goal.returns
returns c = λ given target p q w twice edited planned. (
  new given target p q (sound p w) twice edited planned,
  (named_now given target p q (sound p w) twice edited planned, same_methods given target p q (sound p w) twice edited planned),
)
