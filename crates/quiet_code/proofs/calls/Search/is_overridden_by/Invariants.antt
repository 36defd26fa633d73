use Rattle.std.proofs.Common.{◌≡◌, ◌<◌, false, length, take}
use Rattle.std.specs.List.{list_any}
use Rattle.program_model.specs.declared.pools.MethodName.{MethodName}
use Rattle.hierarchy.specs.Naming.{IsKey}
use Rattle.hierarchy.specs.Shapes.{IsResolved}
use Rattle.receivers.specs.Receiving.{overrides, AreShort}
use Rattle.quiet_code.proofs.calls.Search.is_overridden_by.Given as goal

abbrev pub invariant-loop-definer : goal.invariant-loop-definer
invariant-loop-definer l = IsResolved l.self.program.now l.self.hierarchy.now → (q : MethodName) → IsKey l.self.program.now l.self.hierarchy.now l.key q.name q.proto → l.class < length l.self.program.now.classes → AreShort l.self.program.now l.definers
    → list_any (overrides l.self.program.now q l.class l.target) (take l.definer-index l.definers) ≡ false
