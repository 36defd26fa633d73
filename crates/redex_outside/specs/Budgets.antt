-- What an adviser with a budget of yes answers replies.
use Rattle.std.specs.Prelude.{ℕ, Bool, true, nat_lt, if◌then◌else◌, Option, None, Some, List, [], ◌∷◌}
use Rattle.redex_outside.specs.declared.adviser.Key.TheVariants.{Spare, AtMost}
use Rattle.redex_outside.specs.Counts.{raised}
use Rattle.redex_outside.specs.Turns.{Turn, Told, Weighed}

-- A yes may be given: there is no budget, or fewer were given than it allows.
abbrev pub may_give : Option ℕ → ℕ → Bool
may_give None given = true
may_give (Some most) given = nat_lt given most

-- The replies under this budget, where so many yes answers were given before.
abbrev pub budget_replies : Option ℕ → ℕ → List Turn → List Bool
budget_replies budget given [] = []
budget_replies budget given (Told Spare number text ∷ rest) = budget_replies budget given rest
budget_replies budget given (Told AtMost number text ∷ rest) = budget_replies (Some number) given rest
budget_replies budget given (Weighed ask ∷ rest) =
    may_give budget given ∷ budget_replies budget (if may_give budget given then raised given else given) rest
