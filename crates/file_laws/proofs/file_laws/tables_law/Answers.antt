use Rattle.dex_pools.proofs.PoolReading.{finds_pools}
use Rattle.file_laws.proofs.Tables.{finds_tables, finds_head}
use Rattle.file_laws.proofs.file_laws.tables_law.Goals as goal

pub returns : goal.returns
returns c = record {
  pools = λ bytes left. finds_pools bytes left;
  tables = λ bytes version. finds_tables bytes version;
  head = λ bytes. finds_head bytes;
}
