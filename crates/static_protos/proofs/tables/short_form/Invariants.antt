use Rattle.std.proofs.Common.{◌≡◌, ◌∷◌, map, take}
use Rattle.static_protos.specs.Tables.{letter_at}
use Rattle.static_protos.proofs.tables.short_form.Given as goal

abbrev pub invariant-loop-parameter : goal.invariant-loop-parameter
invariant-loop-parameter l = l.text.items ≡ letter_at l.program l.given ∷ map (letter_at l.program) (take l.parameter-index l.parameters)
