use Rattle.refused_law.proofs.Read.{fails_class_def, fails_its_interfaces, fails_its_root}
use Rattle.refused_law.proofs.laws.class_def_law.Goals as goal

pub returns : goal.returns
returns c = record {
  defs = λ bytes are p left head table stands place less e h. (fails_class_def bytes are p left head table stands place less).fault e h;
  interfaces = λ bytes are p left head table stands place less d behind g e h. (fails_its_interfaces bytes are p left head table stands place less d behind g).fault e h;
  roots = λ bytes are p left head table stands place less d interfaces behind after f g e h. (fails_its_root bytes are p left head table stands place less d interfaces behind after f g).fault e h;
}
