use Rattle.read_laws.proofs.MemberReading.{marks_are, fields_are}
use Rattle.read_laws.proofs.members.fields_law.Goals as goal

pub returns : goal.returns
returns c = record {
  marks = λ bytes p at place left r h. marks_are bytes p at place left r h;
  fields = λ bytes p at place left r h. fields_are bytes p at place left r h;
}
