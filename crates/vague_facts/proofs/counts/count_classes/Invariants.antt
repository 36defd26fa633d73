use Rattle.vague_facts.specs.Counting.{Rises, CountsClasses}
use Rattle.vague_facts.proofs.counts.count_classes.Given as goal

abbrev pub invariant-loop-class : goal.invariant-loop-class
invariant-loop-class l = record {
  rises : Rises l.fn.counts l.counts;
  counted : CountsClasses l.counts l.class-index l.classes;
}
