use Rattle.std.proofs.Common.{◌≡◌, false, nat_eq, take}
use Rattle.std.specs.List.{list_any}
use Rattle.dalvik_lookups.proofs.listing.lists.Given as goal

abbrev pub invariant-loop-one : goal.invariant-loop-one
invariant-loop-one l = list_any (nat_eq l.kind) (take l.one-index l.class.interfaces) ≡ false
