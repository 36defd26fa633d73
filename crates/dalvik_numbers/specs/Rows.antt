-- What a table of float rows answers.
use Rattle.std.specs.Prelude.{ℕ, ◌≡◌, Bool, ◌&&◌, List, Option, nat_eq, find}
use Rattle.std.specs.Option.{option_map}
use Rattle.std.specs.HashMap.{get}
use Rattle.dalvik_defs.specs.Operators.{number_of}
use Rattle.dalvik_defs.specs.declared.tables.FloatRow.{FloatRow}
use Rattle.dalvik_defs.specs.declared.tables.Floats.{Floats}
use Rattle.dalvik_numbers.specs.declared.floats.FloatTable.{FloatTable}

-- an operation's number and the bits of its operands
abbrev pub Key : Type 0
Key = ℕ × ℕ × ℕ

abbrev pub key_eq : Key → Key → Bool
key_eq x y = (nat_eq x.0 y.0 && nat_eq x.1 y.1) && nat_eq x.2 y.2

abbrev pub key_of : FloatRow → Key
key_of r = (number_of r.op, r.a, r.b)

-- the first row with a key
abbrev pub answer_in : List FloatRow → Key → Option ℕ
answer_in rows k = option_map (λ r. r.result) (find (λ r. key_eq (key_of r) k) rows)

-- a table has what these rows answer
pub record IsTable (table : FloatTable) (floats : Floats) : Type 0 where
  pub answers : (k : Key) → get key_eq table.answers k ≡ answer_in floats.rows k
