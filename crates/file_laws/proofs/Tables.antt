-- The five tables are read exactly where they stand.
use Rattle.std.proofs.Common.{◌≡◌, ℕ, List, refl, ap}
use Rattle.dex_pools.specs.declared.pools.Pools.{Pools}
use Rattle.dex_pools.specs.PoolTables.{pools_at}
use Rattle.dex_pools.specs.Finds.{Finds}
use Rattle.dex_pools.proofs.Finding.{same, pure, raised}
use Rattle.dex_pools.proofs.PoolReading.{finds_pools}
use Rattle.program_model.specs.declared.program.Program.{Program}
use Rattle.program_model.specs.declared.program.Version.{Version}
use Rattle.dex_read.specs.Faults.{of_pool}
use Rattle.dex_read.specs.File.{tables_with, tables_at, head_at}
use Rattle.file_laws.specs.Tables.{IsTables, IsHead}
use Rattle.file_laws.proofs.Words.{step}
use Rattle.file_laws.proofs.Headers.{finds_header}

abbrev both : Program → ℕ → Program × ℕ
both p n = (p, n)

by_is : (version : Version) (pools : Pools) (p : Program) (left : ℕ) → p ≡ tables_with version pools → both p left ≡ both (tables_with version pools) left
by_is version pools p left e = ap (λ (q : Program). both q left) e

pub finds_tables : (bytes : List ℕ) (version : Version) → Finds (IsTables bytes version) (tables_at bytes version)
unfolding tables_at
finds_tables bytes version = same (tables_at bytes version)
    (step (raised of_pool (pools_at bytes 16777216) (finds_pools bytes 16777216)) (λ pools _. pure (tables_with version pools.0, pools.1)))
    (λ y p. rw p.2 (record { pools = p.0.0; is = refl; spelled = p.1.0; left = p.1.1 }))
    (λ y h. ((h.pools, y.1), (h.spelled, h.left), by_is version h.pools y.0 y.1 h.is))

pub finds_head : (bytes : List ℕ) → Finds (IsHead bytes) (head_at bytes)
unfolding head_at
finds_head bytes = same (head_at bytes) (step (finds_header bytes) (λ version _. finds_tables bytes version))
    (λ y p. record { version = p.0; header = p.1; tables = p.2 })
    (λ y h. (h.version, h.header, h.tables))
