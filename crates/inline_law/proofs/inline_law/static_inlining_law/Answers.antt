use Rattle.inline_law.proofs.Statics.{statics_shown}
use Rattle.inline_law.proofs.inline_law.static_inlining_law.Goals as goal

pub returns : goal.returns
returns c = λ p q o accepted h others. statics_shown p q accepted h others o
