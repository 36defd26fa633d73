use Rattle.std.proofs.Common.{◌≡◌, ◌++◌, take}
use Rattle.std.specs.List.{flat_map}
use Rattle.text_defs.specs.Escapes.{unit_text}
use Rattle.script_text.proofs.events.push_escaped.Given as goal

abbrev pub invariant-loop-unit : goal.invariant-loop-unit
invariant-loop-unit l = l.out.items ≡ l.initial.out.items ++ flat_map unit_text (take l.unit-index l.text)
