use Rattle.spelled_law.proofs.Values.{founds_value, founds_set, founds_sets}
use Rattle.spelled_law.proofs.laws.values_law.Goals as goal

pub returns : goal.returns
returns c = record {
  values = λ bytes sizes depth s. founds_value bytes sizes depth s;
  sets = λ bytes p offset left. founds_set bytes p offset left;
  parameters = λ bytes p offset left. founds_sets bytes p offset left;
}
