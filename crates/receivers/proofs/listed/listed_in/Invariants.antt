use Rattle.std.proofs.Common.{◌<◌, ◌^◌, length}
use Rattle.receivers.specs.Listing.{AreListed}
use Rattle.receivers.proofs.listed.listed_in.Given as goal

abbrev pub invariant-loop-place : goal.invariant-loop-place
invariant-loop-place l = length l.classes < 2 ^ 32 → AreListed l.classes l.kinds l.rows l.place
