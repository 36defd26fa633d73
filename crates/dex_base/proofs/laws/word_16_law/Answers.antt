use Rattle.dex_base.proofs.Words.{is_16}
use Rattle.dex_base.proofs.laws.word_16_law.Goals as goal

pub returns : goal.returns
returns c = is_16
