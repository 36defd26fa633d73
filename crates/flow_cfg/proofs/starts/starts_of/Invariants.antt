use Rattle.std.proofs.Common.{◌≡◌, ◌∷◌, ◌++◌, drop}
use Rattle.flow_cfg.specs.Starts.{starts_from}
use Rattle.flow_cfg.proofs.starts.starts_of.Given as goal

abbrev pub invariant-loop-position : goal.invariant-loop-position
invariant-loop-position l = l.found.items ++ starts_from l.position (drop l.position l.insns) ≡ 0 ∷ starts_from 0 l.insns
