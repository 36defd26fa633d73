use Rattle.dalvik_defs.proofs.LookUps.{same_by_look_ups}
use Rattle.dalvik_defs.proofs.laws.look_ups_law.Goals as goal

pub returns : goal.returns
returns c = same_by_look_ups
