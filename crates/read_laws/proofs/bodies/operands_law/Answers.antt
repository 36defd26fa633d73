use Rattle.read_laws.proofs.BodyParts.{whole_of}
use Rattle.read_laws.proofs.BodyLaws.{body_operands}
use Rattle.read_laws.proofs.bodies.operands_law.Goals as goal

pub returns : goal.returns
returns c = λ p units tries starts sizes body is h. body_operands (whole_of units tries sizes body starts h).parts p is
