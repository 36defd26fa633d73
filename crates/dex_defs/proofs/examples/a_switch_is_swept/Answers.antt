use Rattle.dex_defs.proofs.Computed.{switch_is_swept}
use Rattle.dex_defs.proofs.examples.a_switch_is_swept.Goals as goal

pub returns : goal.returns
returns c = switch_is_swept
