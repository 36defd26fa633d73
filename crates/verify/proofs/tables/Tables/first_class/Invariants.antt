use Rattle.verify.specs.Meeting.{ClassesBelow}
use Rattle.verify.proofs.tables.Tables.first_class.Given as goal

abbrev pub invariant-loop-class : goal.invariant-loop-class
invariant-loop-class l = ClassesBelow l.self l.class
