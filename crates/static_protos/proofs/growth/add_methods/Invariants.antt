use Rattle.std.proofs.Common.{take}
use Rattle.static_protos.specs.Growing.{IsGrown, grown_methods}
use Rattle.static_protos.specs.Tables.{Tables}
use Rattle.static_protos.proofs.growth.add_methods.Given as goal

abbrev pub invariant-loop-method : goal.invariant-loop-method
invariant-loop-method l = (t : Tables) → IsGrown l.program t l.initial.additions → IsGrown l.program (grown_methods l.program l.marked t l.class (take l.method-index l.methods)) l.additions
