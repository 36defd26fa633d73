use Rattle.std.proofs.Common.{◌≡◌, ℕ, take}
use Rattle.std.specs.Prelude.{fold}
use Rattle.receivers.specs.Receiving.{IsReady}
use Rattle.const_prop.specs.Asked.{IsKnown, IsKeyOf}
use Rattle.const_prop.specs.Given.{with_class}
use Rattle.const_prop.proofs.results.Results.with_classes.Given as goal

abbrev pub invariant-loop-class : goal.invariant-loop-class
invariant-loop-class l = record {
  ready : IsReady l.self.program.now l.initial.walk → IsReady l.self.program.now l.walk;
  is : IsKnown l.self → IsReady l.self.program.now l.initial.walk → (name proto : ℕ) → IsKeyOf l.self l.key name proto
      → l.known ≡ fold (with_class l.self.program.now l.self.facts.now name proto) l.fn.first (take l.class-index l.classes);
}
