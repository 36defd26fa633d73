use Rattle.std.proofs.Common.{◌≡◌, false, take}
use Rattle.std.specs.List.{list_any}
use Rattle.devirt.specs.Asked.{IsBinding}
use Rattle.devirt.specs.Rebound.{is_open}
use Rattle.devirt.proofs.pass.Rebinding.is_one_open.Given as goal

abbrev pub invariant-loop-insn : goal.invariant-loop-insn
invariant-loop-insn l = IsBinding l.self.binder → list_any (is_open l.self.binder.finder.program.now) (take l.insn-index l.insns) ≡ false
