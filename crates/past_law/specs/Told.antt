-- Things that are counted, told apart by the numbers that name them.
use Rattle.std.specs.Prelude.{◌+◌, ◌≤◌, ℕ, List, length}
use Rattle.std.specs.List.{AllByRecursion}
use Rattle.program_model.specs.Limits.{limit_of}
use Rattle.program_model.specs.declared.limits.Counted.{Counted}
use Rattle.program_model.specs.declared.limits.LimitFault.{LimitFault}
use Rattle.dex_defs.specs.Limits.{AllDiffer}

-- so many different things at least, each of a kind and named in a way
pub record Told (Is In : List ℕ → Type 0) (n : ℕ) : Type 0 where
  pub things : List (List ℕ)
  pub differ : AllDiffer things
  pub are : AllByRecursion Is things
  pub within : AllByRecursion In things
  pub many : n ≤ length things

-- what is said where the limit of a quantity is passed
abbrev pub one_past : Counted → LimitFault
one_past kind = record { counted = kind; number = limit_of kind + 1 }
