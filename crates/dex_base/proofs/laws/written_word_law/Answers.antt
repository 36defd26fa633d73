use Rattle.dex_base.proofs.Words.{again_16, again_32}
use Rattle.dex_base.proofs.laws.written_word_law.Goals as goal

pub returns-clause-again_16 : goal.returns-clause-again_16
returns-clause-again_16 c = again_16

pub returns-clause-again_32 : goal.returns-clause-again_32
returns-clause-again_32 c = again_32
