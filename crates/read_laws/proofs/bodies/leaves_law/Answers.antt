use Rattle.read_laws.proofs.BodyParts.{whole_of}
use Rattle.read_laws.proofs.BodyLaws.{body_leaves}
use Rattle.read_laws.proofs.bodies.leaves_law.Goals as goal

pub returns : goal.returns
returns c = λ units tries starts sizes body few h. let w = whole_of units tries sizes body starts h in body_leaves w.parts units w.swept few
