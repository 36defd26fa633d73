use Rattle.std.proofs.Common.{take}
use Rattle.static_protos.specs.Growing.{IsGrown, grown_classes}
use Rattle.static_protos.specs.Tables.{Tables}
use Rattle.static_protos.proofs.growth.add_classes.Given as goal

abbrev pub invariant-loop-class : goal.invariant-loop-class
invariant-loop-class l = (t : Tables) → IsGrown l.program t l.initial.additions → IsGrown l.program (grown_classes l.program l.marked t (take l.class-index l.classes)) l.additions
