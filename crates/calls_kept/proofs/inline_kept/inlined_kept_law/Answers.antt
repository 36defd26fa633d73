use Rattle.calls_kept.proofs.InlinedKept.{inlined_kept}
use Rattle.calls_kept.proofs.inline_kept.inlined_kept_law.Goals as goal

pub returns : goal.returns
returns g = λ p q h o live targets facts admitted count origins rows w resolved acyclic typed words own fits marks exact closed names x formed.
    inlined_kept p q h facts admitted count origins rows w resolved typed x acyclic o words own live targets fits marks exact closed names formed
