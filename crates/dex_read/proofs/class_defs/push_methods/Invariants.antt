use Rattle.dex_read.specs.Code.{method_at}
use Rattle.dex_read.specs.Steps.{behind, for_each}
use Rattle.dex_read.proofs.Steps.{Reads}
use Rattle.dex_read.proofs.class_defs.push_methods.Given as goal

abbrev pub invariant-loop-entry : goal.invariant-loop-entry
invariant-loop-entry l = Reads (method_at l.source.bytes.now l.source.program.now) l.methods.items l.entries l.entry-index l.budget (behind l.fn.methods.items (for_each (method_at l.source.bytes.now l.source.program.now) l.entries l.fn.budget))
