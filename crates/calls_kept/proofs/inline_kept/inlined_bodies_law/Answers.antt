use Rattle.calls_kept.proofs.Looked.{inlined_bodies}
use Rattle.calls_kept.proofs.inline_kept.inlined_bodies_law.Goals as goal

pub returns : goal.returns
returns g = λ p q h facts admitted count origins rows w resolved x. inlined_bodies p q h facts admitted count origins rows w resolved x
