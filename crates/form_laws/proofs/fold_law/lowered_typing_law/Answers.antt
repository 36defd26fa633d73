use Rattle.form_laws.proofs.TypedFolding.{lowered_typing}
use Rattle.form_laws.proofs.fold_law.lowered_typing_law.Goals as goal

pub returns : goal.returns
returns c = λ p c m b d t above places typing lowered. lowered_typing p above c m b d places t typing lowered
