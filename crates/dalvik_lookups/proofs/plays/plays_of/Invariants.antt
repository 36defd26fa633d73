use Rattle.std.proofs.Common.{take}
use Rattle.program_model.specs.declared.program.Program.{Program}
use Rattle.dalvik_lookups.specs.Playing.{ArePlays, Knows}
use Rattle.dalvik_lookups.specs.Tables.{AreReady, Grows}
use Rattle.dalvik_lookups.proofs.plays.plays_of.Given as goal

abbrev pub invariant-loop-one : goal.invariant-loop-one
invariant-loop-one l = record {
  grows : AreReady l.initial.names → Grows l.initial.names l.names;
  are : (p : Program) → Knows p l.initial.names l.declared → ArePlays p l.names.types l.names.texts (take l.one-index l.script) l.plays.items;
}
