use Rattle.dex_base.proofs.LebReading.{is_uleb}
use Rattle.dex_base.proofs.laws.uleb_law.Goals as goal

pub returns : goal.returns
returns c = is_uleb
