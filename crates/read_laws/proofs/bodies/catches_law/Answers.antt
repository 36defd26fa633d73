use Rattle.read_laws.proofs.BodyParts.{whole_of}
use Rattle.read_laws.proofs.BodyLaws.{body_catches}
use Rattle.read_laws.proofs.bodies.catches_law.Goals as goal

pub returns : goal.returns
returns c = λ units tries starts sizes body h. body_catches (whole_of units tries sizes body starts h).parts
