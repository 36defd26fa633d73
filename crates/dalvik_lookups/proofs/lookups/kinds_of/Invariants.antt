use Rattle.dalvik_lookups.specs.Views.{AreKept}
use Rattle.dalvik_lookups.specs.Tables.{KindsMade}
use Rattle.dalvik_lookups.proofs.lookups.kinds_of.Given as goal

abbrev pub invariant-loop-string : goal.invariant-loop-string
invariant-loop-string l = record { made : AreKept l.initial.types → KindsMade l.program l.initial.types l.types l.kinds.items l.string-index }
