use Rattle.std.proofs.Common.{◌≡◌, ◌++◌, take}
use Rattle.std.specs.List.{filter}
use Rattle.compact.specs.Ties.{has_next}
use Rattle.compact.proofs.ties.add_followed.Given as goal

abbrev pub invariant-loop-word : goal.invariant-loop-word
invariant-loop-word l = l.found.items ≡ l.initial.found.items ++ filter (has_next l.words) (take l.word-index l.words)
