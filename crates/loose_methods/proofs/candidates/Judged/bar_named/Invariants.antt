use Rattle.std.proofs.Common.{◌≡◌, ℕ, length, take}
use Rattle.std.specs.Prelude.{◌&&◌, not}
use Rattle.std.specs.List.{list_any}
use Rattle.loose_methods.specs.Asked.{IsJudged}
use Rattle.loose_methods.specs.Loose.{names_it}
use Rattle.loose_methods.specs.Marking.{is_on}
use Rattle.loose_methods.proofs.candidates.Judged.bar_named.Given as goal

abbrev pub invariant-loop-number : goal.invariant-loop-number
invariant-loop-number l = record {
  long : length l.marks ≡ length l.initial.marks;
  are : IsJudged l.self → (n : ℕ) → is_on l.marks n ≡ (is_on l.initial.marks n && not (list_any (names_it l.self.program.now n) (take l.number-index l.numbers)));
}
