use Rattle.program_laws.proofs.Silenced.{silenced_face}
use Rattle.program_laws.proofs.silence_law.silenced_face_law.Goals as goal

pub returns : goal.returns
returns c = silenced_face
