use Rattle.read_laws.proofs.BodyParts.{whole_of}
use Rattle.read_laws.proofs.BodyLaws.{body_begins, body_follows}
use Rattle.read_laws.proofs.bodies.results_law.Goals as goal

pub returns-clause-begins : goal.returns-clause-begins
returns-clause-begins c = λ units tries starts sizes body h. body_begins (whole_of units tries sizes body starts h).parts

pub returns-clause-follows : goal.returns-clause-follows
returns-clause-follows c = λ units tries starts sizes body h. body_follows (whole_of units tries sizes body starts h).parts
