use Rattle.std.proofs.Common.{◌≡◌, map}
use Rattle.splice.proofs.spliced.parts_of.Given as goal

abbrev pub invariant-loop-piece : goal.invariant-loop-piece
invariant-loop-piece l = record {
  insns : l.parts.insns.items ≡ map (λ q. q.insn) l.yielded;
  lines : l.parts.lines.items ≡ map (λ q. q.line) l.yielded;
  origins : l.parts.origins.items ≡ map (λ q. q.origin) l.yielded;
}
