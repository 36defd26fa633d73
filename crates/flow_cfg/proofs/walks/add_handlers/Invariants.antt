use Rattle.std.proofs.Common.{◌≡◌, ◌++◌, drop, map}
use Rattle.flow_cfg.proofs.walks.add_handlers.Given as goal

abbrev pub invariant-loop-handler : goal.invariant-loop-handler
invariant-loop-handler l = l.found.items ++ map (λ h. h.position) (drop l.handler-index l.handler-items) ≡ l.initial.found.items ++ map (λ h. h.position) l.handler-items
