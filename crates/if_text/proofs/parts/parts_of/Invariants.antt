use Rattle.std.proofs.Common.{◌≡◌, ◌++◌, length}
use Rattle.if_text.specs.Parts.{parts_from, parts_of}
use Rattle.if_text.proofs.parts.parts_of.Given as goal

-- the parts that are read, and those of the rest, are the word's
abbrev pub invariant-loop-rest : goal.invariant-loop-rest
invariant-loop-rest l = l.parts.items ++ parts_from l.begun.items l.rest ≡ parts_of l.fn.word

abbrev pub decreases-loop-rest : goal.decreases-loop-rest
decreases-loop-rest l = length l.rest
