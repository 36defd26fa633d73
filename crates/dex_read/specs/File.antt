-- The whole file, as it is read.
use Rattle.std.specs.Prelude.{ℕ, ◌+◌, ◌*◌, List, [], length, nat_eq, nat_le, Result, Ok, Err, if◌then◌else◌}
use Rattle.dex_base.specs.Reading.{◌>>=◌, raise}
use Rattle.program_model.specs.Limits.{limit_of}
use Rattle.program_model.specs.declared.limits.Counted.{Counted}
use Rattle.program_model.specs.declared.limits.Counted.TheVariants.{Types, Protos, Fields, Methods}
use Rattle.program_model.specs.declared.program.Class.{Class}
use Rattle.program_model.specs.declared.program.Program.{Program}
use Rattle.program_model.specs.declared.program.Version.{Version}
use Rattle.dex_pools.specs.declared.pools.Pools.{Pools}
use Rattle.dex_pools.specs.PoolTables.{pools_at}
use Rattle.dex_pools.specs.Run.{run}
use Rattle.dex_read.specs.declared.fault.DexFault.{DexFault}
use Rattle.dex_read.specs.declared.members.Budget.{Budget}
use Rattle.dex_read.specs.Classes.{class_at}
use Rattle.dex_read.specs.Faults.{of_pool}
use Rattle.dex_read.specs.Header.{need_at, header_at}
use Rattle.dex_read.specs.Standing.{standing_at}
use Rattle.dex_read.specs.Word.{word_at}

-- a program that has these tables and no class
abbrev pub tables_with : Version → Pools → Program
tables_with version pools = record {
  strings = pools.strings;
  types = pools.types;
  protos = pools.protos;
  fields = pools.fields;
  methods = pools.methods;
  classes = [];
  version = version;
}

-- the class of this number of the table at this place
abbrev pub class_in : List ℕ → Program → ℕ → ℕ → Budget → Result (Class × Budget) DexFault
class_in bytes p offset place left = class_at bytes p (offset + 32 * place) place left

-- so many classes of the table at this offset; an empty table stands anywhere
unfoldable pub table_at : List ℕ → Program → ℕ → ℕ → Budget → Result (List Class × Budget) DexFault
table_at bytes p count offset left = if nat_eq count 0 then Ok ([], left)
    else need_at bytes offset (32 * count) >>= λ whole. run (class_in bytes p offset) 0 count left

unfoldable pub classes_at : List ℕ → Program → Budget → Result (List Class) DexFault
classes_at bytes p left = do
  count ← word_at bytes 96
  offset ← word_at bytes 100
  classes ← table_at bytes p count offset left
  Ok classes.0

-- the tables, and what the parameters of protos leave of the items
unfoldable pub tables_at : List ℕ → Version → Result (Program × ℕ) DexFault
tables_at bytes version = raise of_pool (pools_at bytes 16777216) >>= λ pools. Ok (tables_with version pools.0, pools.1)

-- the version and the tables
unfoldable pub head_at : List ℕ → Result (Program × ℕ) DexFault
head_at bytes = header_at bytes >>= λ version. tables_at bytes version

-- The program that the bytes spell, or the fault for which they are refused. The faults come in this order: the header, the checksum and
-- the limits of the tables; strings, types, protos, fields and methods; then class by class; and then what interfaces stand on.
unfoldable pub program_at : List ℕ → Result Program DexFault
program_at bytes = do
  tables ← head_at bytes
  classes ← classes_at bytes tables.0 (record { items = tables.1; cells = 0 })
  stands ← standing_at (record tables.0 { classes = classes })
  Ok (record tables.0 { classes = classes })
