-- What a table of names holds.
use Rattle.std.specs.Prelude.{ℕ, List, Option, Some, [], option_map, unwrap_or}
use Rattle.std.specs.BTreeMap.{get_by_text}
use Rattle.redex_outside.specs.declared.names.Names.{Names}

abbrev pub held_in : Names → List ℕ → Option (List ℕ)
held_in names name = option_map (λ bytes. bytes.items) (get_by_text names.table name)

-- The same where a name without bytes holds the empty list.
abbrev pub held_surely : Names → List ℕ → Option (List ℕ)
held_surely names name = Some (unwrap_or (held_in names name) [])
