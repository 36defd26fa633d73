-- Which program the bytes of a file spell. A relation: items are found by their offsets, may be shared and may stand anywhere, and
-- what a reader need not check is not asked.
use Rattle.std.specs.Prelude.{◌+◌, ◌*◌, ℕ, List}
use Rattle.dex_base.specs.Decides.{Entries}
use Rattle.program_model.specs.declared.program.Program.{Program}
use Rattle.dex_pools.specs.declared.header.Extent.{Extent}
use Rattle.dex_pools.specs.declared.scalar.TableSizes.{TableSizes}
use Rattle.dex_pools.specs.declared.pools.Pools.{Pools}
use Rattle.dex_pools.specs.Spelled.{SpellsPools, IsExtent}
use Rattle.dex_pools.specs.Marks.{sizes_of}
use Rattle.dex_defs.specs.Header.{IsHeader}
use Rattle.dex_defs.specs.ClassDefs.{IsClass}

abbrev pub pools_of : Program → Pools
pools_of p = record { strings = p.strings; types = p.types; protos = p.protos; fields = p.fields; methods = p.methods }

abbrev pub sizes_in : Program → TableSizes
sizes_in p = sizes_of (pools_of p)

-- the header, the five tables, whose entries ascend, and the classes in the order of the file
pub record Spells (bytes : List ℕ) (p : Program) : Type 0 where
  pub header : IsHeader bytes p.version
  pub pools : SpellsPools bytes 16777216 (pools_of p)
  pub table : Extent
  pub stands : IsExtent bytes 96 32 table
  pub classes : Entries table.size (λ i. IsClass bytes p (sizes_in p) (table.offset + 32 * i)) p.classes
