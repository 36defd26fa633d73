-- The header, as it is read (Dalvik executable format, "header_item").
use Rattle.std.specs.Prelude.{ℕ, ◌+◌, List, [], ◌∷◌, length, drop, Result, Ok, Err, nat_le, nat_eq, if◌then◌else◌}
use Rattle.std.specs.List.{starts_with}
use Rattle.dex_base.specs.Adler.{adler_of}
use Rattle.dex_base.specs.Reading.{◌>>=◌}
use Rattle.program_model.specs.Limits.{limit_of}
use Rattle.program_model.specs.declared.limits.Counted.{Counted}
use Rattle.program_model.specs.declared.limits.Counted.TheVariants.{Types, Protos, Fields, Methods}
use Rattle.program_model.specs.declared.program.Version.{Version}
use Rattle.program_model.specs.declared.program.Version.TheVariants.{V035, V037}
use Rattle.dex_read.specs.declared.fault.DexFault.{DexFault}
use Rattle.dex_read.specs.declared.fault.DexFault.TheVariants.{Short, Magic, Header, Checksum, Limit}
use Rattle.dex_read.specs.Word.{word_at}

-- so many bytes stand from this place on
unfoldable pub need_at : List ℕ → ℕ → ℕ → Result (Unit {0}) DexFault
need_at bytes at count = if nat_le (at + count) (length bytes) then Ok tt else Err (Short at)

-- one more than the limit
abbrev pub past : Counted → DexFault
past counted = Limit (record { counted = counted; number = limit_of counted + 1 })

-- "dex", a line feed, the version in three digits, a zero byte
abbrev pub magic_035 : List ℕ
magic_035 = 100 ∷ 101 ∷ 120 ∷ 10 ∷ 48 ∷ 51 ∷ 53 ∷ 0 ∷ []

abbrev pub magic_037 : List ℕ
magic_037 = 100 ∷ 101 ∷ 120 ∷ 10 ∷ 48 ∷ 51 ∷ 55 ∷ 0 ∷ []

-- the version that the first eight bytes name
unfoldable pub version_at : List ℕ → Result Version DexFault
version_at bytes = if starts_with nat_eq bytes magic_035 then Ok V035 else if starts_with nat_eq bytes magic_037 then Ok V037 else Err Magic

-- the field at this place has its only value
unfoldable pub fixed_at : List ℕ → ℕ → ℕ → Result (Unit {0}) DexFault
fixed_at bytes at wanted = word_at bytes at >>= λ n. if nat_eq n wanted then Ok tt else Err (Header at)

-- the number at 8 is the checksum of all bytes behind it
unfoldable pub sum_at : List ℕ → Result (Unit {0}) DexFault
sum_at bytes = word_at bytes 8 >>= λ stored. if nat_eq stored (adler_of (drop 12 bytes)) then Ok tt else Err (Checksum stored (adler_of (drop 12 bytes)))

-- the table whose size stands there keeps its limit
unfoldable pub size_at : List ℕ → ℕ → Counted → Result (Unit {0}) DexFault
size_at bytes at counted = word_at bytes at >>= λ n. if nat_le n (limit_of counted) then Ok tt else Err (past counted)

-- The version, where nothing of the header is wrong and the tables keep their limits. The faults come in this order.
unfoldable pub header_at : List ℕ → Result Version DexFault
header_at bytes = do
  whole ← need_at bytes 0 112
  version ← version_at bytes
  file_size ← fixed_at bytes 32 (length bytes)
  header_size ← fixed_at bytes 36 112
  endian_tag ← fixed_at bytes 40 0x12345678
  link_size ← fixed_at bytes 44 0
  checksum ← sum_at bytes
  types ← size_at bytes 64 Types
  protos ← size_at bytes 72 Protos
  fields ← size_at bytes 80 Fields
  methods ← size_at bytes 88 Methods
  Ok version
