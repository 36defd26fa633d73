use Rattle.dex_base.proofs.Texts.{is_text}
use Rattle.dex_base.proofs.laws.text_law.Goals as goal

pub returns : goal.returns
returns c = is_text
