use Rattle.std.proofs.Common.{◌≡◌, take, map}
use Rattle.program_model.specs.Texts.{string_text}
use Rattle.verify.specs.Descriptors.{shape_named}
use Rattle.verify.proofs.named.Named.shapes.Given as goal

abbrev pub invariant-loop-string : goal.invariant-loop-string
invariant-loop-string l = l.shapes.items ≡ map (λ s. shape_named l.program (string_text l.program s)) (take l.string-index l.program.types)
