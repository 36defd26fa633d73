use Rattle.std.proofs.Common.{◌<◌, ◌^◌, length}
use Rattle.hierarchy.specs.Touring.{IsBelow}
use Rattle.hierarchy.proofs.links.subclasses.Given as goal

abbrev pub invariant-loop-place : goal.invariant-loop-place
invariant-loop-place l = length l.supers < 2 ^ 32 → IsBelow l.supers l.lists.rows l.below.rows l.place
