use Rattle.std.proofs.Common.{◌≡◌, List, length, drop}
use Rattle.program_model.specs.declared.pass.Outside.{Outside}
use Rattle.dalvik_defs.specs.State.{World}
use Rattle.dalvik_defs.specs.declared.script.Given.{Given}
use Rattle.dalvik_lookups.specs.Tables.{IsRight}
use Rattle.dalvik_lookups.specs.Walks.{IsKept}
use Rattle.dalvik_state.specs.Giving.{AreTakenFrom, IsGiven}
use Rattle.dalvik_state.specs.States.{AreFineKinds}
use Rattle.dalvik_state.proofs.Passing.{fit_from, IsLeftToFit}
use Rattle.dalvik_state.proofs.legal.all_fit.Given as goal

abbrev pub invariant-loop-place : goal.invariant-loop-place
invariant-loop-place l = record {
  kept : IsRight l.tables.lookups → IsKept l.tables.lookups l.initial.memo → IsGiven l.tables.lookups l.world l.gifts → AreFineKinds l.tables.lookups l.kinds → IsKept l.tables.lookups l.memo;
  fits : (o : Outside) (before : World) (gs : List Given) → IsRight l.tables.lookups → IsKept l.tables.lookups l.initial.memo → IsGiven l.tables.lookups l.world l.gifts → AreTakenFrom l.tables.lookups o l.world before l.gifts gs l.values → AreFineKinds l.tables.lookups l.kinds
      → IsLeftToFit l.tables.lookups o l.world l.gifts (fit_from l.tables.lookups o l.world l.gifts before gs l.values l.kinds) (drop l.place l.values) (drop l.place l.kinds);
  long : length l.values ≡ length l.kinds;
}
