use Rattle.read_laws.proofs.ClassReading.{class_read, types_fit, source_is}
use Rattle.read_laws.proofs.members.class_types_law.Goals as goal

pub returns : goal.returns
returns c = record {
  types = λ bytes p at place left r h. types_fit bytes p at place left r ((class_read bytes p at place left).found r h);
  source = λ bytes p at place left r h. source_is bytes p at place left r ((class_read bytes p at place left).found r h);
}
