use Rattle.std.proofs.Common.{take}
use Rattle.dalvik_lookups.specs.Playing.{AreEach, IsGift}
use Rattle.dalvik_lookups.specs.Tables.{AreReady, Grows}
use Rattle.dalvik_lookups.proofs.plays.gifts_of.Given as goal

abbrev pub invariant-loop-value : goal.invariant-loop-value
invariant-loop-value l = record {
  grows : AreReady l.initial.names → Grows l.initial.names l.names;
  each : AreReady l.initial.names → AreEach (IsGift l.names.types l.names.texts) (take l.value-index l.values) l.gifts.items;
}
