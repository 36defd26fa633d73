use Rattle.read_laws.proofs.MemberReading.{class_is}
use Rattle.read_laws.proofs.members.class_law.Goals as goal

pub returns : goal.returns
returns c = λ bytes p at place left r are h. class_is bytes p at place left r h are
