-- Calls that are made to fail.
use Rattle.std.specs.Prelude.{ℕ, ◌==◌, List, Option, None, Some, find, take, ◌++◌}
use Rattle.redex_outside.specs.declared.fail.Fail.{Fail}

-- What the list says of the call of this number.
abbrev pub fail_of : List Fail → ℕ → Option Fail
fail_of fails number = find (λ fail. fail.call == number) fails

-- What a failing put leaves under a name that held this.
abbrev pub held_after : Option ℕ → Option (List ℕ) → List ℕ → Option (List ℕ)
held_after None old bytes = old
held_after (Some kept) old bytes = Some (take kept bytes)

-- What is said after a failing saying.
abbrev pub said_after : Option ℕ → List ℕ → List ℕ → List ℕ
said_after None old bytes = old
said_after (Some kept) old bytes = old ++ take kept bytes
