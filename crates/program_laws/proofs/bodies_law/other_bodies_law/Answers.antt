use Rattle.std.proofs.Common.{◌≡◌, true}
use Rattle.program_laws.proofs.Faces.{others_face}
use Rattle.program_laws.proofs.Found.{others_found}
use Rattle.program_laws.proofs.Typed.{others_typed}
use Rattle.program_laws.proofs.bodies_law.other_bodies_law.Goals as goal

pub returns-clause-face : goal.returns-clause-face
returns-clause-face c = λ p q test h f. others_face (λ k a b. test k a b ≡ true) p q h f

pub returns-clause-found : goal.returns-clause-found
returns-clause-found c = λ p q test none h k. others_found (λ k a b. test k a b ≡ true) none p q h k

pub returns-clause-typed : goal.returns-clause-typed
returns-clause-typed c = λ p q test h typed. others_typed (λ k a b. test k a b ≡ true) p q h typed
