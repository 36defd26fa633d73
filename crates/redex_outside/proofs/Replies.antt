-- The two advisers have one reply for each `weigh`.
use Rattle.std.proofs.Common.{◌≡◌, ℕ, ◌++◌, if◌then◌else◌, Option, Some, List, [], ◌∷◌, length, refl, arith}
use Rattle.redex_outside.specs.declared.adviser.Key.TheVariants.{Spare, AtMost}
use Rattle.redex_outside.specs.Counts.{raised}
use Rattle.redex_outside.specs.Turns.{Turn, Told, Weighed, weigh_count}
use Rattle.redex_outside.specs.Voices.{OneForEach}
use Rattle.redex_outside.specs.Budgets.{may_give, budget_replies}
use Rattle.redex_outside.specs.Prefixes.{utf16_of, prefix_replies}

budget_count : (turns : List Turn) (budget : Option ℕ) (given : ℕ) → length (budget_replies budget given turns) ≡ weigh_count turns
budget_count [] budget given = refl
budget_count (Told Spare number text ∷ rest) budget given = budget_count rest budget given
budget_count (Told AtMost number text ∷ rest) budget given = budget_count rest (Some number) given
budget_count (Weighed ask ∷ rest) budget given =
    omega (arith, budget_count rest budget (if may_give budget given then raised given else given))

pub budget_one_for_each : (budget : Option ℕ) (given : ℕ) → OneForEach (budget_replies budget given)
budget_one_for_each budget given = λ turns. budget_count turns budget given

prefix_count : (turns : List Turn) (prefixes : List (List ℕ)) → length (prefix_replies prefixes turns) ≡ weigh_count turns
prefix_count [] prefixes = refl
prefix_count (Told Spare number text ∷ rest) prefixes = prefix_count rest (prefixes ++ utf16_of text ∷ [])
prefix_count (Told AtMost number text ∷ rest) prefixes = prefix_count rest prefixes
prefix_count (Weighed ask ∷ rest) prefixes = omega (arith, prefix_count rest prefixes)

pub prefix_one_for_each : (prefixes : List (List ℕ)) → OneForEach (prefix_replies prefixes)
prefix_one_for_each prefixes = λ turns. prefix_count turns prefixes
