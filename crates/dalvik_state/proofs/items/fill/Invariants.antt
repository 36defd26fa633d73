use Rattle.std.proofs.Common.{◌≡◌, take}
use Rattle.dalvik_state.specs.Frames.{fill_in}
use Rattle.dalvik_state.proofs.items.fill.Given as goal

abbrev pub invariant-loop-place : goal.invariant-loop-place
invariant-loop-place l = l.items ≡ fill_in l.item (take l.place l.numbers) l.initial.items
