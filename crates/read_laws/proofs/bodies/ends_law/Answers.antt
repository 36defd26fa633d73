use Rattle.read_laws.proofs.BodyParts.{whole_of}
use Rattle.read_laws.proofs.BodyLaws.{body_ends}
use Rattle.read_laws.proofs.bodies.ends_law.Goals as goal

pub returns : goal.returns
returns c = λ units tries starts sizes body h. body_ends (whole_of units tries sizes body starts h).parts
