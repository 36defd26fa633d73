use Rattle.facts_check.specs.Bodies.{IsFilling}
use Rattle.facts_check.specs.Known.{AreKnown}
use Rattle.facts_check.proofs.body.walk.Given as goal

abbrev pub invariant-loop-position : goal.invariant-loop-position
invariant-loop-position l = AreKnown l.known → IsFilling l.known l.site.class l.site.number l.site.body.now l.site.starts.now l.frames.items l.position l.next
