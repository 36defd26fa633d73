use Rattle.std.proofs.Common.{◌≡◌, ◌++◌, drop, option_map}
use Rattle.command_line.specs.Reading.{numbers_of}
use Rattle.command_line.proofs.told.numbers_of.Given as goal

-- the numbers so far and those of the texts from here on are the numbers of all texts
abbrev pub invariant-loop-text : goal.invariant-loop-text
invariant-loop-text l = option_map (λ ns. l.numbers.items ++ ns) (numbers_of (drop l.text-index l.texts)) ≡ numbers_of l.texts
