-- How one adviser takes its turns. A voice is what its `replies` are at one moment.
use Rattle.std.specs.Prelude.{◌≡◌, Bool, List, ◌∷◌, ◌++◌, length}
use Rattle.redex_outside.specs.declared.adviser.Ask.{Ask}
use Rattle.redex_outside.specs.Turns.{Turn, Weighed, weigh_count}

-- The answers that an adviser would give to the `weigh` turns of a list of turns.
abbrev pub Voice : Type 0
Voice = List Turn → List Bool

-- From now on it replies as it would have behind this turn, which asks nothing.
abbrev pub HasTaken : Turn → Voice → Voice → Type 0
HasTaken turn old new = (rest : List Turn) → new rest ≡ old (turn ∷ rest)

-- It replies as before.
abbrev pub SameVoice : Voice → Voice → Type 0
SameVoice old new = (turns : List Turn) → new turns ≡ old turns

-- It gave this answer to this ask, whatever may come behind it, and from now on replies as it would have behind it.
abbrev pub HasAnswered : Ask → Voice → Bool → Voice → Type 0
HasAnswered ask old answer new = (rest : List Turn) → old (Weighed ask ∷ rest) ≡ answer ∷ new rest

-- It has one answer for each `weigh`.
abbrev pub OneForEach : Voice → Type 0
OneForEach voice = (turns : List Turn) → length (voice turns) ≡ weigh_count turns

-- To the asks among these turns it gave these answers, whatever may come behind them, and from now on replies as it
-- would have behind them.
abbrev pub HasReplied : List Turn → Voice → List Bool → Voice → Type 0
HasReplied turns old answers new = (rest : List Turn) → old (turns ++ rest) ≡ answers ++ new rest
