use Rattle.std.proofs.Common.{◌≡◌, length}
use Rattle.hierarchy.specs.Shapes.{IsOf}
use Rattle.verify.specs.Supers.{FindsBelow, Serves}
use Rattle.verify.proofs.calls.Calls.search_each.Given as goal

abbrev pub invariant-loop-insn : goal.invariant-loop-insn
invariant-loop-insn l = record {
  size : length l.found.items ≡ l.insn-index;
  serves : Serves l.self.hierarchy.now l.fn.scratch.walk → Serves l.self.hierarchy.now l.scratch.walk;
  finds : IsOf l.self.program.now l.self.hierarchy.now → Serves l.self.hierarchy.now l.fn.scratch.walk → FindsBelow l.self.program.now l.class l.insns l.found.items l.insn-index;
}
