use Rattle.dex_defs.proofs.Faulty.{damaged, archive}
use Rattle.dex_defs.proofs.examples.a_header_is_wrong.Goals as goal

pub returns : goal.returns
returns c = record { damaged = damaged; archive = archive }
