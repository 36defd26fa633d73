-- The invariants that coverage stands over, and all of them at once.
use Rattle.dalvik_defs.specs.Outer.{Outer}
use Rattle.dalvik_defs.specs.declared.program.NamedProgram.{NamedProgram}
use Rattle.dalvik_defs.specs.declared.tables.Framework.{Framework}
use Rattle.run_laws.specs.Invariant.{Invariant, both}
use Rattle.pass_defs.specs.Analysis.{Analysis}
use Rattle.pass_defs.specs.Facts.{Facts}
use Rattle.run_facts.specs.Covered.{covering}
use Rattle.run_laws.specs.TypedStates.{typed_states}
use Rattle.cover_law.specs.Known.{live_states, ranged_states}

-- typed, with words of 32 bits
abbrev pub word_states : NamedProgram → Framework → Outer → Invariant
word_states p f o = both (typed_states p f o) ranged_states

-- and covered by facts
abbrev pub covered_states : {V : Type 0} → Analysis V → NamedProgram → Outer → Framework → Facts V → Invariant
covered_states a p o f facts = both (both (word_states p f o) (live_states p o)) (covering a p o facts)
