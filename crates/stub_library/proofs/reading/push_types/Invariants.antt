use Rattle.std.proofs.Common.{◌≡◌, ◌++◌, map, take}
use Rattle.program_model.specs.Texts.{type_text}
use Rattle.stub_library.proofs.reading.push_types.Given as goal

abbrev pub invariant-loop-kind : goal.invariant-loop-kind
invariant-loop-kind l = l.out.items ≡ l.initial.out.items ++ map (type_text l.program) (take l.kind-index l.kinds)
