-- What names hold: bytes, or nothing.
use Rattle.std.specs.Prelude.{◌≡◌, ◌≢◌, ◌⊎◌, ℕ, List, take, Option, Some}

abbrev pub Held : Type 0
Held = List ℕ → Option (List ℕ)

-- Each name holds what it held.
abbrev pub AllSame : Held → Held → Type 0
AllSame old new = (name : List ℕ) → new name ≡ old name

-- Each other name holds what it held.
abbrev pub OthersSame : List ℕ → Held → Held → Type 0
OthersSame name old new = (other : List ℕ) → other ≢ name → new other ≡ old other

-- What was there is there, or a prefix of these bytes is.
abbrev pub OldOrPrefix : Option (List ℕ) → Option (List ℕ) → List ℕ → Type 0
OldOrPrefix old new bytes = (new ≡ old) ⊎ ((kept : ℕ) × (new ≡ Some (take kept bytes)))
