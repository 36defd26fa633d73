use Rattle.read_laws.proofs.MemberReading.{methods_are}
use Rattle.read_laws.proofs.members.methods_law.Goals as goal

pub returns : goal.returns
returns c = λ bytes p at place left r are h. methods_are bytes p at place left r h are
