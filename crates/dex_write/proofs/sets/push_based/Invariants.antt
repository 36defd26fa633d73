use Rattle.std.proofs.Common.{◌≡◌, ◌++◌, ◌+◌, take, map}
use Rattle.dex_write.proofs.sets.push_based.Given as goal

abbrev pub invariant-loop-entry : goal.invariant-loop-entry
invariant-loop-entry l = l.words.items ≡ l.fn.words.items ++ map (λ entry. l.base + entry) (take l.entry-index l.entries)
