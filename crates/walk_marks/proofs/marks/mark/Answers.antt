use Rattle.std.proofs.Common.{arith, rules, refl}
use Rattle.walk_marks.proofs.Marking.{marks_one}
use Rattle.walk_marks.proofs.marks.mark.Goals as goal

pub returns-clause-marks : goal.returns-clause-marks
returns-clause-marks c = marks_one c.args.marks.now.items _ c.args.waiting.now.items c.push.new.self.items c.args.node (omega arith) (search rules) refl c.in_ok-push.ensures.items
