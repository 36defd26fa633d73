use Rattle.std.proofs.Common.{◌≡◌, ◌≤◌, length, take}
use Rattle.std.specs.Prelude.{All}
use Rattle.program_model.specs.declared.body.Body.{Body}
use Rattle.verify.specs.Flow.{places_of}
use Rattle.receivers.specs.Receiving.{IsReady}
use Rattle.devirt.specs.Asked.{IsBinding}
use Rattle.devirt.specs.Rebound.{IsRecalledAt, edits_from}
use Rattle.devirt.proofs.pass.Rebinding.edits_among.Given as goal

abbrev pub invariant-loop-place : goal.invariant-loop-place
invariant-loop-place l = record {
  ready : IsReady l.self.binder.finder.program.now l.initial.walk → IsReady l.self.binder.finder.program.now l.walk;
  calls : length l.insns ≤ 4294967295 → (b : Body) → b.insns ≡ l.insns → All (IsRecalledAt b) l.edits.items;
  are : length l.insns ≤ 4294967295 → IsBinding l.self.binder → IsReady l.self.binder.finder.program.now l.initial.walk
      → l.edits.items ≡ edits_from l.self.binder.finder.program.now l.self.facts.now l.code.class l.code.method (places_of l.code.typings.now.states.items) 0 (take l.place l.insns);
}
