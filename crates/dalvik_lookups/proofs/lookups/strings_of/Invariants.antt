use Rattle.dalvik_lookups.specs.Views.{AreTexts}
use Rattle.dalvik_lookups.specs.Tables.{StringsMade}
use Rattle.dalvik_lookups.proofs.lookups.strings_of.Given as goal

abbrev pub invariant-loop-string : goal.invariant-loop-string
invariant-loop-string l = record { made : AreTexts l.initial.texts → StringsMade l.program l.texts l.strings.items l.string-index }
