use Rattle.verify.specs.Meeting.{BasesBelow}
use Rattle.verify.proofs.tables.Tables.first_base.Given as goal

abbrev pub invariant-loop-kind : goal.invariant-loop-kind
invariant-loop-kind l = BasesBelow l.self l.kind
