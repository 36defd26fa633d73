use Rattle.program_laws.proofs.ChangedFaces.{face_same}
use Rattle.program_laws.proofs.Moved.{moved_typed}
use Rattle.program_laws.proofs.silence_law.other_bodies_law.Goals as goal

pub returns-clause-face : goal.returns-clause-face
returns-clause-face c = λ new keeps p f. face_same new p keeps f

pub returns-clause-typed : goal.returns-clause-typed
returns-clause-typed c = λ new keeps p typed. moved_typed new keeps p typed
