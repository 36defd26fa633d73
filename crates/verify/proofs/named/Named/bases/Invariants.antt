use Rattle.std.proofs.Common.{◌≡◌, take, map}
use Rattle.program_model.specs.Texts.{string_text}
use Rattle.verify.specs.Descriptors.{base_shape, without_brackets}
use Rattle.verify.proofs.named.Named.bases.Given as goal

abbrev pub invariant-loop-string : goal.invariant-loop-string
invariant-loop-string l = l.shapes.items ≡ map (λ s. base_shape l.program (without_brackets (string_text l.program s))) (take l.string-index l.program.types)
