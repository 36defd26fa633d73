use Rattle.dex_base.proofs.Words.{is_32}
use Rattle.dex_base.proofs.laws.word_32_law.Goals as goal

pub returns : goal.returns
returns c = is_32
