-- The version and the five tables, without classes.
use Rattle.std.specs.Prelude.{◌≡◌, ◌-◌, ℕ, List}
use Rattle.program_model.specs.declared.program.Program.{Program}
use Rattle.program_model.specs.declared.program.Version.{Version}
use Rattle.dex_pools.specs.declared.pools.Pools.{Pools}
use Rattle.dex_pools.specs.Spelled.{SpellsPools, parameter_count}
use Rattle.dex_read.specs.File.{tables_with}
use Rattle.file_laws.specs.Header.{IsReadHeader}

-- the program of the tables alone, and what the parameters of its protos leave of 16,777,216 items
pub record IsTables (bytes : List ℕ) (version : Version) (read : Program × ℕ) : Type 0 where
  pub pools : Pools
  pub is : read.0 ≡ tables_with version pools
  pub spelled : SpellsPools bytes 16777216 pools
  pub left : read.1 ≡ 16777216 - parameter_count pools.protos

-- with the header
pub record IsHead (bytes : List ℕ) (read : Program × ℕ) : Type 0 where
  pub version : Version
  pub header : IsReadHeader bytes version
  pub tables : IsTables bytes version read
