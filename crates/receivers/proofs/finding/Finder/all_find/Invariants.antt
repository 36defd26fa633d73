use Rattle.std.proofs.Common.{◌≡◌, true, take}
use Rattle.program_model.specs.declared.pools.MethodName.{MethodName}
use Rattle.receivers.specs.Receiving.{all_find, AreShort, IsFinding, IsNameOf, IsReady}
use Rattle.receivers.proofs.finding.Finder.all_find.Given as goal

abbrev pub invariant-loop-class : goal.invariant-loop-class
invariant-loop-class l = record {
  ready : IsReady l.self.program.now l.initial.walk → IsReady l.self.program.now l.walk;
  found : IsFinding l.self → IsReady l.self.program.now l.initial.walk → (q : MethodName) → IsNameOf l.self q l.named → AreShort l.self.program.now l.classes
      → all_find l.self.program.now q l.target (take l.class-index l.classes) ≡ true;
}
