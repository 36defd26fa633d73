use Rattle.dex_base.proofs.Texts.{text_is_again}
use Rattle.dex_base.proofs.laws.written_text_law.Goals as goal

pub returns : goal.returns
returns c = text_is_again
