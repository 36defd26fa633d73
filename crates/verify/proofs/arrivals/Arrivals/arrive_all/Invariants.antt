use Rattle.std.proofs.Common.{◌≡◌, drop}
use Rattle.verify.specs.Flow.{arrived_of, arrived_all}
use Rattle.verify.specs.Frames.{kinds_of}
use Rattle.verify.specs.Waiting.{Queued}
use Rattle.verify.proofs.arrivals.Arrivals.arrive_all.Given as goal

abbrev pub invariant-loop-target : goal.invariant-loop-target
invariant-loop-target l = record {
  arrived : arrived_all l.tables (drop l.target-index l.targets) (kinds_of l.frame) (arrived_of l.self) ≡ arrived_all l.tables l.targets (kinds_of l.frame) (arrived_of l.fn.self);
  queues : Queued l.fn.self l.self;
}
