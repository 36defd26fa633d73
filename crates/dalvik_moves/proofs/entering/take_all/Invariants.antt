use Rattle.std.proofs.Common.{List, take}
use Rattle.program_model.specs.declared.pass.Outside.{Outside}
use Rattle.dalvik_defs.specs.declared.script.Given.{Given}
use Rattle.dalvik_lookups.specs.Playing.{AreEach, IsGift}
use Rattle.dalvik_lookups.specs.Tables.{IsRight}
use Rattle.dalvik_state.specs.Runs.{IsReach}
use Rattle.dalvik_state.specs.States.{IsSound}
use Rattle.dalvik_moves.proofs.Entered.{AreTakenSo}
use Rattle.dalvik_moves.proofs.entering.take_all.Given as goal

abbrev pub invariant-loop-gift : goal.invariant-loop-gift
invariant-loop-gift l = (o : Outside) (gs : List Given) → IsRight l.tables.lookups → IsReach l.tables.lookups o → IsSound l.tables.lookups l.state.world → AreEach (IsGift l.tables.lookups.types l.tables.lookups.texts) gs (take l.gift-index l.values)
    → AreTakenSo l.tables.lookups o l.state.world gs l.gifts l.taken.items
