use Rattle.verify.proofs.Bounds.{short_code}
use Rattle.verify.proofs.laws.short_law.Goals as goal

pub returns : goal.returns
returns c = short_code
