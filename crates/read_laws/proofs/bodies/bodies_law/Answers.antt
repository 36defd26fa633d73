use Rattle.read_laws.proofs.BodyParts.{whole_of}
use Rattle.read_laws.proofs.BodyFits.{fits}
use Rattle.read_laws.proofs.bodies.bodies_law.Goals as goal

pub returns : goal.returns
returns c = λ p units tries starts sizes body is are few h. let w = whole_of units tries sizes body starts h in fits w.parts p is units are w.swept few
