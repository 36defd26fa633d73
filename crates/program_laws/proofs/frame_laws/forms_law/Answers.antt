use Rattle.std.proofs.Common.{◌≡◌, true}
use Rattle.program_laws.proofs.Acts.{acts}
use Rattle.program_laws.proofs.frame_laws.forms_law.Goals as goal

pub returns : goal.returns
returns c = λ under floats w f g from into to related x h a. acts under floats w f g from into to (λ a b. related a b ≡ true) x h a
