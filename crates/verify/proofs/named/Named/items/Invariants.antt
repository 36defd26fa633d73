use Rattle.std.proofs.Common.{◌≡◌, take, map}
use Rattle.program_model.specs.Texts.{string_text}
use Rattle.verify.specs.Descriptors.{item_number, without_brackets}
use Rattle.verify.proofs.named.Named.items.Given as goal

abbrev pub invariant-loop-string : goal.invariant-loop-string
invariant-loop-string l = l.items.items ≡ map (λ s. item_number l.program (without_brackets (string_text l.program s))) (take l.string-index l.program.types)
