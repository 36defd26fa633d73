use Rattle.std.proofs.Common.{◌≡◌, drop}
use Rattle.std.specs.List.{list_all}
use Rattle.hierarchy.specs.Shapes.{IsOf}
use Rattle.premises.specs.Owning.{is_own}
use Rattle.premises.proofs.makers.are_own.Given as goal

abbrev pub invariant-loop-number : goal.invariant-loop-number
invariant-loop-number l = IsOf l.program l.hierarchy → list_all (is_own l.program) (drop l.number-index l.numbers) ≡ list_all (is_own l.program) l.numbers
