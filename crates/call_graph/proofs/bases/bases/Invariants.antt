use Rattle.std.proofs.Common.{◌≡◌, take, map}
use Rattle.program_model.specs.Texts.{string_text}
use Rattle.call_graph.specs.Bases.{base_of_text}
use Rattle.call_graph.proofs.bases.bases.Given as goal

abbrev pub invariant-loop-string : goal.invariant-loop-string
invariant-loop-string l = l.bases.items ≡ map (λ s. base_of_text l.program (string_text l.program s)) (take l.string-index l.program.types)
