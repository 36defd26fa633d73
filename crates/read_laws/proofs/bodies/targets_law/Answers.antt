use Rattle.read_laws.proofs.BodyParts.{whole_of}
use Rattle.read_laws.proofs.BodyLaws.{body_targets}
use Rattle.read_laws.proofs.bodies.targets_law.Goals as goal

pub returns : goal.returns
returns c = λ units tries starts sizes body h. body_targets (whole_of units tries sizes body starts h).parts
