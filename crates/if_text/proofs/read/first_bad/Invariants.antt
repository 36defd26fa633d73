use Rattle.std.proofs.Common.{◌≡◌, ◌≤◌, ◌-◌, true, take, length}
use Rattle.std.specs.List.{list_all}
use Rattle.if_text.specs.Wildcards.{is_good_in}
use Rattle.if_text.proofs.read.first_bad.Given as goal

abbrev pub invariant-loop-at : goal.invariant-loop-at
invariant-loop-at l = (l.at ≤ length l.words) × (list_all (λ parts. list_all (is_good_in l.slots) parts.items) (take l.at l.words) ≡ true)

abbrev pub decreases-loop-at : goal.decreases-loop-at
decreases-loop-at l = length l.words - l.at
