-- The header of a file (Dalvik executable format, "header_item").
use Rattle.std.specs.Prelude.{◌≡◌, ◌≤◌, ℕ, List, [], ◌∷◌, length, take, drop}
use Rattle.dex_base.specs.Adler.{adler_of}
use Rattle.dex_base.specs.Word.{Is32}
use Rattle.program_model.specs.declared.program.Version.{Version}
use Rattle.program_model.specs.declared.program.Version.TheVariants.{V035, V037}

-- "dex", a line feed, the version in three digits, a zero byte
abbrev pub magic_of : Version → List ℕ
magic_of V035 = 100 ∷ 101 ∷ 120 ∷ 10 ∷ 48 ∷ 51 ∷ 53 ∷ 0 ∷ []
magic_of V037 = 100 ∷ 101 ∷ 120 ∷ 10 ∷ 48 ∷ 51 ∷ 55 ∷ 0 ∷ []

-- What is asked of the header: its own fields and the checksum. The signature is asked of valid files alone.
pub record IsHeader (bytes : List ℕ) (version : Version) : Type 0 where
  pub whole : 112 ≤ length bytes
  pub magic : take 8 bytes ≡ magic_of version
  pub checksum : Is32 bytes 8 (adler_of (drop 12 bytes))
  pub file_size : Is32 bytes 32 (length bytes)
  pub header_size : Is32 bytes 36 112
  pub endian_tag : Is32 bytes 40 0x12345678
  pub link_size : Is32 bytes 44 0
