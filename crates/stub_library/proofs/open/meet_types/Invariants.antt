use Rattle.std.proofs.Common.{take}
use Rattle.std.specs.List.{list_all}
use Rattle.stub_library.specs.Shut.{type_clear}
use Rattle.stub_library.specs.Meeting.{MeetsEntry}
use Rattle.stub_library.proofs.open.meet_types.Given as goal

abbrev pub invariant-loop-kind : goal.invariant-loop-kind
invariant-loop-kind l = MeetsEntry l.program (λ q. list_all (type_clear l.program l.declared.library.now q) (take l.kind-index l.kinds)) l.initial.met l.met
