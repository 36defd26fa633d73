-- What a table answers, by the rows that it was made of.
use Rattle.std.proofs.Common.{◌≡◌, ℕ, ap, refl, ◌∙◌}
use Rattle.std.specs.Prelude.{Option, Some, None, find}
use Rattle.std.specs.Option.{unwrap_or, option_map}
use Rattle.std.specs.HashMap.{get}
use Rattle.dalvik_defs.specs.Operators.{float_answer, number_of, row_fits}
use Rattle.dalvik_defs.specs.declared.tables.FloatOp.{FloatOp}
use Rattle.dalvik_defs.specs.declared.tables.FloatRow.{FloatRow}
use Rattle.dalvik_defs.specs.declared.tables.Floats.{Floats}
use Rattle.dalvik_numbers.specs.Rows.{IsTable, key_eq}
use Rattle.dalvik_numbers.specs.declared.floats.FloatTable.{FloatTable}

result_of : (found : Option FloatRow) → unwrap_or (option_map (λ (r : FloatRow). r.result) found) 0 ≡ elim found [ Some r ↦ r.result | None ↦ 0 ]
result_of (Some r) = refl
result_of None = refl

pub stored_answer : (table : FloatTable) (floats : Floats) (op : FloatOp) (a b : ℕ) → IsTable table floats → unwrap_or (get key_eq table.answers (number_of op, a, b)) 0 ≡ float_answer floats op a b
stored_answer table floats op a b made = ap (λ (o : Option ℕ). unwrap_or o 0) (made.answers (number_of op, a, b)) ∙ result_of (find (row_fits op a b) floats.rows)
