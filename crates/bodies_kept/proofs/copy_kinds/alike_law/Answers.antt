use Rattle.bodies_kept.proofs.Copies.{alike}
use Rattle.bodies_kept.proofs.copy_kinds.alike_law.Goals as goal

pub returns : goal.returns
returns c = λ s b entry x m narrow width least n a at. alike s b entry x m narrow width least n a at
