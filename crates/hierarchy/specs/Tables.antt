-- What a table of numbers says, where the greatest number of 32 bits stands for none.
use Rattle.std.specs.Prelude.{ℕ, ◌-◌, ◌^◌, List, [], Option, None, Some, nat_eq, cond}
use Rattle.std.specs.List.{slice_get}

-- the list of a place, empty past the end
abbrev pub row_or_empty : Option (List ℕ) → List ℕ
row_or_empty None = []
row_or_empty (Some row) = row

abbrev pub row_of : List (List ℕ) → ℕ → List ℕ
row_of rows place = row_or_empty (slice_get rows place)

abbrev pub known : Option ℕ → Option ℕ
known None = None
known (Some n) = cond (nat_eq n (2 ^ 32 - 1)) None (Some n)

-- the number at a place, if there is one
abbrev pub read_at : List ℕ → ℕ → Option ℕ
read_at table place = known (slice_get table place)

-- what stands at a place of a table of answers, none past the end
abbrev pub answer : {A : Type 0} → Option (Option A) → Option A
answer None = None
answer (Some a) = a
