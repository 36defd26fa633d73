use Rattle.std.proofs.Common.{◌≡◌, replicate, None}
use Rattle.verify.specs.Flow.{places_of}
use Rattle.verify.proofs.arrivals.no_frames.Given as goal

abbrev pub invariant-loop : goal.invariant-loop
invariant-loop l = places_of l.frames.items ≡ replicate l.counter None
