-- The tables of the program that is read.
use Rattle.std.proofs.Common.{◌≡◌, ℕ, List, Result, Ok, Err, sym, ap}
use Rattle.dex_base.specs.Reading.{◌>>=◌, raise}
use Rattle.dex_base.proofs.Decides.{ok_is}
use Rattle.program_model.specs.declared.program.Class.{Class}
use Rattle.program_model.specs.declared.program.Program.{Program}
use Rattle.program_model.specs.declared.program.Version.{Version}
use Rattle.dex_pools.specs.declared.fault.PoolFault.{PoolFault}
use Rattle.dex_pools.specs.declared.pools.Pools.{Pools}
use Rattle.dex_pools.specs.Spelled.{SpellsPools}
use Rattle.dex_pools.specs.PoolTables.{pools_at}
use Rattle.dex_pools.proofs.PoolReading.{finds_pools}
use Rattle.dex_read.specs.declared.fault.DexFault.{DexFault}
use Rattle.dex_read.specs.Faults.{of_pool}
use Rattle.dex_read.specs.File.{tables_with, tables_at, head_at, classes_at, program_at}
use Rattle.dex_read.specs.Header.{header_at}
use Rattle.dex_read.specs.Standing.{standing_at}
use Rattle.dex_read.proofs.Rising.{then_ok}

-- what the program that is read is made of
pub record IsRead (bytes : List ℕ) (p : Program) : Type 0 where
  pub tables : Program
  pub left : ℕ
  pub version : Version
  pub pools : Pools
  pub classes : List Class
  pub head : head_at bytes ≡ Ok (tables, left)
  pub made : tables ≡ tables_with version pools
  pub spells : SpellsPools bytes 16777216 pools
  pub filled : classes_at bytes tables (record { items = left; cells = 0 }) ≡ Ok classes
  pub stands : standing_at (record tables { classes = classes }) ≡ Ok tt
  pub is : p ≡ record tables { classes = classes }

lowered : {X : Type 0} (read : Result X PoolFault) (x : X) → raise of_pool read ≡ Ok x → read ≡ Ok x
lowered (Ok y) x h = ap Ok (ok_is y x h)
lowered (Err e) x h = absurd cc

record HasTables (bytes : List ℕ) (tables : Program) : Type 0 where
  version : Version
  pools : Pools
  made : tables ≡ tables_with version pools
  spells : SpellsPools bytes 16777216 pools

has_tables : (bytes : List ℕ) (version : Version) (t : Program × ℕ) → tables_at bytes version ≡ Ok t → HasTables bytes t.0
unfolding tables_at
has_tables bytes version t h =
    let p = then_ok (raise of_pool (pools_at bytes 16777216)) (λ pools. Ok (tables_with version pools.0, pools.1)) t h in
    record {
      version = version;
      pools = p.0.0;
      made = ap (λ (r : Program × ℕ). r.0) (sym (ok_is {F = DexFault} (tables_with version p.0.0, p.0.1) t p.2));
      spells = ((finds_pools bytes 16777216).found p.0 (lowered (pools_at bytes 16777216) p.0 p.1)).0;
    }

head_has : (bytes : List ℕ) (t : Program × ℕ) → head_at bytes ≡ Ok t → HasTables bytes t.0
unfolding head_at
head_has bytes t h =
    let p = then_ok (header_at bytes) (λ v. tables_at bytes v) t h in
    has_tables bytes p.0 t p.2

pub is_read : (bytes : List ℕ) (p : Program) → program_at bytes ≡ Ok p → IsRead bytes p
unfolding program_at
is_read bytes p h =
    let a = then_ok (head_at bytes) (λ tables. classes_at bytes tables.0 (record { items = tables.1; cells = 0 }) >>= λ classes. standing_at (record tables.0 { classes = classes }) >>= λ stands. Ok (record tables.0 { classes = classes })) p h in
    let b = then_ok (classes_at bytes a.0.0 (record { items = a.0.1; cells = 0 })) (λ classes. standing_at (record a.0.0 { classes = classes }) >>= λ stands. Ok (record a.0.0 { classes = classes })) p a.2 in
    let c = then_ok (standing_at (record a.0.0 { classes = b.0 })) (λ stands. Ok (record a.0.0 { classes = b.0 })) p b.2 in
    let t = head_has bytes a.0 a.1 in
    record {
      tables = a.0.0;
      left = a.0.1;
      version = t.version;
      pools = t.pools;
      classes = b.0;
      head = a.1;
      made = t.made;
      spells = t.spells;
      filled = b.1;
      stands = c.1;
      is = sym (ok_is {F = DexFault} (record a.0.0 { classes = b.0 }) p c.2);
    }
