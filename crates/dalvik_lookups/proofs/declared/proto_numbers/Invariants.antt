use Rattle.dalvik_lookups.specs.Declaring.{spellings_of, SpellingsMade}
use Rattle.dalvik_lookups.specs.Views.{StandOnce}
use Rattle.dalvik_lookups.proofs.declared.proto_numbers.Given as goal

abbrev pub invariant-loop-proto : goal.invariant-loop-proto
invariant-loop-proto l = record { made : StandOnce (spellings_of l.initial.spellings) → SpellingsMade l.program l.spellings l.protos.items l.proto-index }
