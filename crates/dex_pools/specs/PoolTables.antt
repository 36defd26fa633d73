-- All tables, as they are read.
use Rattle.std.specs.Prelude.{ℕ, List, Result, Ok, nat_lt}
use Rattle.dex_base.specs.Reading.{◌>>=◌, each}
use Rattle.program_model.specs.declared.pools.Proto.{Proto}
use Rattle.program_model.specs.declared.pools.FieldName.{FieldName}
use Rattle.program_model.specs.declared.pools.MethodName.{MethodName}
use Rattle.dex_pools.specs.declared.fault.PoolFault.{PoolFault}
use Rattle.dex_pools.specs.declared.fault.Table.TheVariants as table
use Rattle.dex_pools.specs.declared.header.Extents.{Extents}
use Rattle.dex_pools.specs.declared.pools.Pools.{Pools}
use Rattle.dex_pools.specs.Run.{run}
use Rattle.dex_pools.specs.Order.{ascends_in, list_below, proto_below, field_below, method_below}
use Rattle.dex_pools.specs.Tables.{extents_at, string_at, type_at, letters_of, proto_at, field_at, method_at}

-- the texts, which have 16,777,216 units at most
unfoldable pub strings_at : List ℕ → Extents → Result (List (List ℕ)) PoolFault
strings_at bytes tables = do
  strings ← run (string_at bytes tables.strings) 0 tables.strings.size 16777216
  order ← ascends_in list_below table.Strings strings.0
  Ok strings.0

unfoldable pub types_at : List ℕ → Extents → List (List ℕ) → Result (List ℕ) PoolFault
types_at bytes tables strings = do
  types ← each (type_at bytes tables strings) 0 tables.types.size
  order ← ascends_in nat_lt table.Types types
  Ok types

-- the protos, and what their parameters leave of the items
unfoldable pub protos_at : List ℕ → Extents → List (List ℕ) → List ℕ → ℕ → Result (List Proto × ℕ) PoolFault
protos_at bytes tables strings letters left = do
  protos ← run (proto_at bytes tables strings letters) 0 tables.protos.size left
  order ← ascends_in proto_below table.Protos protos.0
  Ok protos

unfoldable pub fields_at : List ℕ → Extents → List ℕ → Result (List FieldName) PoolFault
fields_at bytes tables letters = do
  fields ← each (field_at bytes tables letters) 0 tables.fields.size
  order ← ascends_in field_below table.Fields fields
  Ok fields

unfoldable pub methods_at : List ℕ → Extents → Result (List MethodName) PoolFault
methods_at bytes tables = do
  methods ← each (method_at bytes tables) 0 tables.methods.size
  order ← ascends_in method_below table.Methods methods
  Ok methods

-- the tables, and what they leave of the items
unfoldable pub pools_at : List ℕ → ℕ → Result (Pools × ℕ) PoolFault
pools_at bytes left = do
  tables ← extents_at bytes
  strings ← strings_at bytes tables
  types ← types_at bytes tables strings
  protos ← protos_at bytes tables strings (letters_of strings types) left
  fields ← fields_at bytes tables (letters_of strings types)
  methods ← methods_at bytes tables
  Ok (record { strings = strings; types = types; protos = protos.0; fields = fields; methods = methods }, protos.1)
