-- What a reader asks of the header beyond what it spells.
use Rattle.std.specs.Prelude.{ℕ, List, ◌≤◌}
use Rattle.dex_base.specs.Word.{Is32}
use Rattle.program_model.specs.declared.limits.Counted.{Counted}
use Rattle.program_model.specs.declared.limits.Counted.TheVariants.{Types, Protos, Fields, Methods}
use Rattle.program_model.specs.declared.program.Version.{Version}
use Rattle.program_model.specs.Limits.{limit_of}
use Rattle.dex_defs.specs.Header.{IsHeader}

-- the table whose size stands there keeps its limit
abbrev pub KeepsSize : List ℕ → ℕ → Counted → Type 0
KeepsSize bytes at counted = (n : ℕ) × Is32 bytes at n × (n ≤ limit_of counted)

-- the header, with the sizes of the tables within their limits
pub record IsReadHeader (bytes : List ℕ) (version : Version) : Type 0 where
  pub header : IsHeader bytes version
  pub types : KeepsSize bytes 64 Types
  pub protos : KeepsSize bytes 72 Protos
  pub fields : KeepsSize bytes 80 Fields
  pub methods : KeepsSize bytes 88 Methods
