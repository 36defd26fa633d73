use Rattle.write_laws.proofs.Arranging.{lie_none, lie_rises, lie_once}
use Rattle.write_laws.proofs.write_laws.arranged_law.Goals as goal

pub returns : goal.returns
returns c = record {
  none = λ bytes align from offsets texts to h. lie_none bytes align from offsets texts to h;
  apart = λ bytes align from offsets texts to h. lie_rises bytes align from offsets texts to h;
  once = λ bytes others from offsets places texts s t h k. lie_once bytes others from offsets places texts s t h k;
}
