use Rattle.std.proofs.Common.{length}
use Rattle.std.specs.Prelude.{IsTrue}
use Rattle.std.specs.List.{list_all}
use Rattle.code_read.specs.Handlers.{handlers_at}
use Rattle.code_read.specs.Regions.{handler_inside}
use Rattle.code_read.proofs.Walks.{Handles}
use Rattle.code_read.proofs.handlers.handlers_at.Given as goal

abbrev pub invariant-loop-left : goal.invariant-loop-left
invariant-loop-left l = record {
  reads : Handles l.bytes l.places.starts.items l.types l.handlers.items l.left l.at (handlers_at l.bytes l.places.starts.items l.types l.count l.from);
  inside : IsTrue (list_all (handler_inside l.types (length l.places.starts.items)) l.handlers.items);
}

abbrev pub decreases-loop-left : goal.decreases-loop-left
decreases-loop-left l = l.left
