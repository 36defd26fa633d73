use Rattle.file_laws.proofs.Classes.{founds_def, founds_interfaces}
use Rattle.file_laws.proofs.file_laws.class_def_law.Goals as goal

pub returns : goal.returns
returns c = record {
  defs = λ bytes p at. founds_def bytes p at;
  interfaces = λ bytes p offset left. founds_interfaces bytes p offset left;
}
