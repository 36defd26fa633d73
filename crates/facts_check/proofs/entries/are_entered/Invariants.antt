use Rattle.std.proofs.Common.{◌≡◌, ℕ, ◌<◌, [], true}
use Rattle.std.specs.Prelude.{is_some, slice_index_or}
use Rattle.facts_check.specs.Known.{is_marked}
use Rattle.facts_check.specs.Bodies.{registers_of}
use Rattle.facts_check.proofs.entries.are_entered.Given as goal

abbrev pub invariant-loop-method : goal.invariant-loop-method
invariant-loop-method l = (m : ℕ) → m < l.method → is_marked l.marks m ≡ true → is_some (registers_of (slice_index_or l.frames m []) 0) ≡ true
