use Rattle.vague_facts.specs.Counting.{Rises, CountsTo}
use Rattle.vague_facts.proofs.counts.count_methods.Given as goal

abbrev pub invariant-loop-method : goal.invariant-loop-method
invariant-loop-method l = record {
  rises : Rises l.fn.counts l.counts;
  counted : CountsTo l.counts l.method-index l.methods;
}
