use Rattle.std.proofs.Common.{◌≡◌, ◌+◌, length, take}
use Rattle.hierarchy.specs.Walking.{waits, IsFair}
use Rattle.dalvik_lookups.specs.Listing.{left, Grows}
use Rattle.dalvik_lookups.proofs.listing.enter_all.Given as goal

abbrev pub invariant-loop-class : goal.invariant-loop-class
invariant-loop-class l = record {
  fair : IsFair l.fn.walk → IsFair l.walk;
  size : length l.walk.seen.items ≡ length l.fn.walk.seen.items;
  grows : Grows (take l.class-index l.classes) l.fn.walk.seen.items (waits l.fn.walk) l.walk.seen.items (waits l.walk);
  left : left l.walk.seen.items + length (waits l.walk) ≡ left l.fn.walk.seen.items + length (waits l.fn.walk);
}
