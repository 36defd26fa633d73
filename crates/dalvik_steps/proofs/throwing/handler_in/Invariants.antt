use Rattle.std.proofs.Common.{◌≡◌, drop, map}
use Rattle.std.specs.Prelude.{find}
use Rattle.dalvik_defs.specs.Naming.{handler_of}
use Rattle.dalvik_defs.specs.declared.program.NamedHandler.{NamedHandler}
use Rattle.dalvik_lookups.specs.Facing.{run_face}
use Rattle.dalvik_lookups.specs.Tables.{IsRight}
use Rattle.dalvik_lookups.specs.Walks.{IsKept}
use Rattle.dalvik_state.specs.Drafts.{kind_text}
use Rattle.dalvik_steps.specs.Flights.{AreHandlers, IsKindMaybe}
use Rattle.dalvik_steps.proofs.throwing.handler_in.Given as goal

abbrev pub invariant-loop-handler : goal.invariant-loop-handler
invariant-loop-handler l = record {
  kept : IsRight l.tables.lookups → IsKept l.tables.lookups l.fn.memo → IsKindMaybe l.tables.lookups l.kind → AreHandlers l.tables.lookups l.region → IsKept l.tables.lookups l.memo;
  same : IsRight l.tables.lookups → IsKept l.tables.lookups l.fn.memo → IsKindMaybe l.tables.lookups l.kind → AreHandlers l.tables.lookups l.region
      → find (λ (h : NamedHandler). (run_face l.tables.lookups).under (kind_text l.tables.lookups l.kind) h.kind) (map (handler_of l.tables.lookups.program.now) (drop l.handler-index l.region.handlers))
      ≡ find (λ (h : NamedHandler). (run_face l.tables.lookups).under (kind_text l.tables.lookups l.kind) h.kind) (map (handler_of l.tables.lookups.program.now) l.region.handlers);
}
