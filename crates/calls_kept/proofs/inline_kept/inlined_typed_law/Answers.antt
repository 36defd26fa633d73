use Rattle.calls_kept.proofs.Tested.{inlined_typed}
use Rattle.calls_kept.proofs.inline_kept.inlined_typed_law.Goals as goal

pub returns : goal.returns
returns g = λ p q h facts admitted count origins rows w resolved typed x formed. inlined_typed p h w resolved typed q facts admitted count origins rows x formed
