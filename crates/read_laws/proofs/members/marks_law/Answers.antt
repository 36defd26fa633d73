use Rattle.read_laws.proofs.MarkReading.{reads_value, reads_set, reads_sets}
use Rattle.read_laws.proofs.members.marks_law.Goals as goal

pub returns : goal.returns
returns c = record {
  values = λ depth bytes p s r h. (reads_value depth bytes p s).found r h;
  sets = λ bytes p offset left r h. (reads_set bytes p offset left).found r h;
  parameters = λ bytes p offset left r h. (reads_sets bytes p offset left).found r h;
}
