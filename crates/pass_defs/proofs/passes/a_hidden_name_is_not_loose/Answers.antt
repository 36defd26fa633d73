use Rattle.pass_defs.proofs.HiddenNames.{not_known}
use Rattle.pass_defs.proofs.passes.a_hidden_name_is_not_loose.Goals as goal

pub returns : goal.returns
returns c = not_known
