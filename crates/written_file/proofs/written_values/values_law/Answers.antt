use Rattle.written_file.proofs.Values.{value_stands, mark_stands}
use Rattle.written_file.proofs.written_values.values_law.Goals as goal

pub returns : goal.returns
returns c = record {
  value = λ bytes sizes depth v at fit fits h. value_stands bytes sizes fit depth v at fits h;
  mark = λ bytes sizes m at fit fits h. mark_stands bytes sizes fit m at fits h;
}
