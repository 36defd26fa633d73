use Rattle.std.proofs.Common.{◌≡◌, ◌≤◌, ◌-◌, ◌++◌, length, take, drop}
use Rattle.rule_text.specs.Glob.{matches_of}
use Rattle.if_rules.specs.Matched.{star_taken}
use Rattle.if_rules.proofs.globs.star_taken.Given as goal

abbrev pub invariant-loop-at : goal.invariant-loop-at
invariant-loop-at l = (l.at ≤ length l.fn.text) × (star_taken (matches_of l.fn.named l.fn.behind) l.fn.text ≡ take l.at l.fn.text ++ star_taken (matches_of l.fn.named l.fn.behind) (drop l.at l.fn.text))

abbrev pub decreases-loop-at : goal.decreases-loop-at
decreases-loop-at l = length l.fn.text - l.at
