use Rattle.removal_law.proofs.TypedCode.{typed_code}
use Rattle.removal_law.proofs.laws.typed_code_is_sound_law.Goals as goal

pub returns : goal.returns
returns c = typed_code
