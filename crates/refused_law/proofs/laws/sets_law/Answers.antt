use Rattle.refused_law.proofs.Read.{fails_set, fails_sets}
use Rattle.refused_law.proofs.laws.sets_law.Goals as goal

pub returns : goal.returns
returns c = record {
  sets = λ bytes are p left head offset behind has e h. (fails_set bytes are p left head offset behind has).fault e h;
  lists = λ bytes are p left head offset behind has e h. (fails_sets bytes are p left head offset behind has).fault e h;
}
