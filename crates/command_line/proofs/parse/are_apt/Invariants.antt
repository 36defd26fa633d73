use Rattle.std.proofs.Common.{◌≡◌, map, drop, string_bytes}
use Rattle.command_line.specs.Parsing.{are_apt}
use Rattle.command_line.proofs.parse.are_apt.Given as goal

-- what the words from here on say is what all the words say
abbrev pub invariant-loop-word : goal.invariant-loop-word
invariant-loop-word l = are_apt (map string_bytes (drop l.word-index l.words)) ≡ are_apt (map string_bytes l.words)
