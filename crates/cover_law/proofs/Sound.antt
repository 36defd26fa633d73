-- The product domain with the operators of the code is sound on operands as the typing has them.
use Rattle.std.specs.Prelude.{List}
use Rattle.dalvik_defs.specs.Outer.{Outer}
use Rattle.dalvik_defs.specs.Shown.{Fit}
use Rattle.dalvik_defs.specs.Under.{is_under}
use Rattle.dalvik_defs.specs.declared.program.NamedProgram.{NamedProgram}
use Rattle.dalvik_defs.specs.declared.script.Move.{Move}
use Rattle.dalvik_defs.specs.declared.tables.Floats.{Floats}
use Rattle.dalvik_defs.specs.declared.tables.Framework.{Framework}
use Rattle.removal_law.specs.Reach.{IsAcyclic}
use Rattle.run_facts.specs.ValueAnalysis.{value_analysis}
use Rattle.run_laws.specs.Regular.{IsRegular}
use Rattle.cover_law.specs.Apart.{IsSoundApart}
use Rattle.cover_law.specs.Sound.{IsSoundOn}
use Rattle.cover_law.proofs.ValueSound.{values_apart}
use Rattle.cover_law.specs.Operators.{operators}
use Rattle.cover_law.proofs.ValueNumbers.{unaries, binaries, literals, comparisons, stores, keys, others}
use Rattle.cover_law.proofs.Tests.{tests}

pub value_sound : (p : NamedProgram) (o : Outer) (f : Framework) (floats : Floats) (script : List Move) → IsRegular p → IsAcyclic p → Fit p o f script → IsSoundOn (value_analysis p operators) (is_under p f) floats
value_sound p o f floats script regular acyclic fit = record {
  grows = rest.grows;
  all = rest.all;
  knows = rest.knows;
  makes = rest.makes;
  lengths = rest.lengths;
  truths = rest.truths;
  items = rest.items;
  outers = rest.outers;
  catches = rest.catches;
  unaries = unaries p floats;
  binaries = binaries p floats;
  literals = literals p floats;
  comparisons = comparisons p floats;
  stores = stores p floats;
  holders = rest.holders;
  casts = rest.casts;
  tests = tests p;
  keys = keys p floats;
  others = others p floats;
}
  where
    rest : IsSoundApart (value_analysis p operators) (is_under p f)
    rest = values_apart p o f script operators regular acyclic fit
