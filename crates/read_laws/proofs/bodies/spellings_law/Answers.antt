use Rattle.read_laws.proofs.BodyParts.{whole_of}
use Rattle.read_laws.proofs.SpelledTables.{all_spelled}
use Rattle.read_laws.proofs.bodies.spellings_law.Goals as goal

pub returns : goal.returns
returns c = λ units tries starts sizes body are h. let w = whole_of units tries sizes body starts h in all_spelled units w.places sizes body.insns are w.swept w.parts.payloads w.parts.insns
