use Rattle.dex_read.specs.declared.fault.DexFault.TheVariants as dex
use Rattle.past_law.proofs.Whole.{fails_program}
use Rattle.past_law.proofs.laws.past_law.Goals as goal

pub returns : goal.returns
returns c = λ bytes are fault h. (fails_program bytes are).fault (dex.Limit fault) h
