use Rattle.std.proofs.Common.{◌≡◌, ◌++◌, flat_map, take}
use Rattle.program_model.specs.Texts.{type_text}
use Rattle.inline_calls.proofs.texts.push_types.Given as goal

abbrev pub invariant-loop-kind : goal.invariant-loop-kind
invariant-loop-kind l = l.units.items ≡ l.initial.units.items ++ flat_map (type_text l.program) (take l.kind-index l.kinds)
