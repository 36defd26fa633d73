use Rattle.std.proofs.Common.{◌+◌, ◌*◌}
use Rattle.dex_base.specs.Word.{u32_at, Is32, IsShort}
use Rattle.dex_base.specs.Leb.{uleb_at, IsUlebAt, BadLeb}
use Rattle.dex_base.proofs.Words.{is_32}
use Rattle.dex_base.proofs.LebReading.{is_uleb}
use Rattle.dex_base.proofs.Decides.{decides_each}
use Rattle.dex_base.proofs.Chained.{decides_chain}
use Rattle.dex_base.proofs.laws.table_law.Goals as goal

pub returns-clause-words : goal.returns-clause-words
returns-clause-words c = λ bytes at count. decides_each (λ i. Is32 bytes (at + 4 * i)) (λ i. IsShort bytes (at + 4 * i) 4) (λ i. u32_at bytes (at + 4 * i)) (λ i. is_32 bytes (at + 4 * i)) 0 count

pub returns-clause-numbers : goal.returns-clause-numbers
returns-clause-numbers c = λ bytes at count. decides_chain (IsUlebAt bytes) (BadLeb bytes) (uleb_at bytes) (is_uleb bytes) count at
