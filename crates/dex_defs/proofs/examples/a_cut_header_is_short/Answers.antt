use Rattle.dex_defs.proofs.Computed.{short}
use Rattle.dex_defs.proofs.examples.a_cut_header_is_short.Goals as goal

pub returns : goal.returns
returns c = short
