use Rattle.std.proofs.Common.{◌≡◌, drop}
use Rattle.verify.specs.Flow.{arrived_of, handled}
use Rattle.verify.specs.Frames.{kinds_of}
use Rattle.verify.specs.Waiting.{Queued}
use Rattle.verify.proofs.flow.Code.catch_all.Given as goal

abbrev pub invariant-loop-handler : goal.invariant-loop-handler
invariant-loop-handler l = record {
  arrived : handled l.self.setting.now.tables.now (drop l.handler-index l.handlers) (kinds_of l.fn.frame) (arrived_of l.arrivals) ≡ handled l.self.setting.now.tables.now l.handlers (kinds_of l.fn.frame) (arrived_of l.fn.arrivals);
  frame : kinds_of l.frame ≡ kinds_of l.fn.frame;
  queues : Queued l.fn.arrivals l.arrivals;
}
