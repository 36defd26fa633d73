use Rattle.verify.proofs.Passing.{says}
use Rattle.verify.proofs.laws.types_law.Goals as goal

pub returns : goal.returns
returns c = λ p h t w of a chains. says p w of.once t a chains
