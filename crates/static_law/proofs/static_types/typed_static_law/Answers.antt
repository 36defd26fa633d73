use Rattle.removal_law.proofs.Protos.{told_apart}
use Rattle.static_law.proofs.Typed.{typed_static}
use Rattle.static_law.proofs.static_types.typed_static_law.Goals as goal

pub returns : goal.returns
returns c = λ p o methods loose given in_tables regular described defines names upward. typed_static p o methods loose given in_tables regular.names (told_apart p described defines) names upward
