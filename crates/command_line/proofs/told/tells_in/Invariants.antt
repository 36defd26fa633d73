use Rattle.std.proofs.Common.{◌≡◌, ◌++◌, map, drop, string_bytes}
use Rattle.std.specs.Vec.Iter.{into_iter_items}
use Rattle.command_line.specs.Parsing.{tells_in}
use Rattle.command_line.proofs.told.tells_in.Given as goal

-- what was told, and what the words from here on tell, is what all the words tell
abbrev pub invariant-loop-word : goal.invariant-loop-word
invariant-loop-word l = l.tells.items ++ tells_in (map string_bytes (drop l.word-index l.words)) (into_iter_items l.spares) (into_iter_items l.numbers)
    ≡ tells_in (map string_bytes l.words) (into_iter_items l.initial.spares) (into_iter_items l.initial.numbers)
