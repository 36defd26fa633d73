use Rattle.std.proofs.Common.{◌≡◌, ◌++◌, map, take}
use Rattle.command_line.proofs.told.push_words.Given as goal

abbrev pub invariant-loop-text : goal.invariant-loop-text
invariant-loop-text l = l.out.items ≡ l.fn.out.items ++ map (λ text. text.now) (take l.text-index l.texts)
