use Rattle.std.proofs.Common.{◌≡◌, ◌∷◌, ◌++◌, map, drop}
use Rattle.insn_regs.specs.Wides.{is_wide_type}
use Rattle.insn_regs.proofs.wides.widths_in.Given as goal

abbrev pub invariant-loop-kind : goal.invariant-loop-kind
invariant-loop-kind l = l.widths.items ++ map (is_wide_type l.program) (drop l.kind-index l.kind-items) ≡ map (is_wide_type l.program) (l.method.class ∷ l.kind-items)
