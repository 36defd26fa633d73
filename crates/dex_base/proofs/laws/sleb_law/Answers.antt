use Rattle.dex_base.proofs.LebReading.{is_sleb}
use Rattle.dex_base.proofs.laws.sleb_law.Goals as goal

pub returns : goal.returns
returns c = is_sleb
