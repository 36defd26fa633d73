-- The whole file, from its tables and its runs of items (Dalvik executable format, "header_item", "map_list").
use Rattle.std.specs.Prelude.{◌≡◌, ℕ, ◌+◌, ◌-◌, ◌*◌, ◌/◌, List, [], ◌∷◌, ◌++◌, length, take, drop, replicate, nat_eq, if◌then◌else◌}
use Rattle.sha1.specs.Sha1.{sha1}
use Rattle.dex_base.specs.Adler.{adler_of}
use Rattle.dex_base.specs.Word.{Is32}
use Rattle.program_model.specs.declared.program.Version.{Version}
use Rattle.program_model.specs.declared.program.Version.TheVariants.{V035, V037}
use Rattle.dex_write.specs.declared.file.Counts.{Counts}
use Rattle.dex_write.specs.declared.run.Run.{Run}
use Rattle.dex_write.specs.Numbers.{words, up}
use Rattle.dex_write.specs.Runs.{end_behind, runs_text, map_row, run_rows}

-- ---- the tables, one behind another behind the header

abbrev pub types_at : Counts → ℕ
types_at c = 112 + 4 * c.strings

abbrev pub protos_at : Counts → ℕ
protos_at c = types_at c + 4 * c.types

abbrev pub fields_at : Counts → ℕ
fields_at c = protos_at c + 12 * c.protos

abbrev pub methods_at : Counts → ℕ
methods_at c = fields_at c + 8 * c.fields

abbrev pub classes_at : Counts → ℕ
classes_at c = methods_at c + 8 * c.methods

abbrev pub data_at : Counts → ℕ
data_at c = classes_at c + 32 * c.classes

-- where a table of so many entries begins, 0 for an empty one
abbrev pub table_offset : ℕ → ℕ → ℕ
table_offset count at = if nat_eq count 0 then 0 else at

-- how many entries each table has, and where it begins
abbrev pub front_pairs : Counts → List ℕ
front_pairs c = c.strings ∷ table_offset c.strings 112 ∷ c.types ∷ table_offset c.types (types_at c) ∷ c.protos ∷ table_offset c.protos (protos_at c) ∷ []

abbrev pub back_pairs : Counts → List ℕ
back_pairs c = c.fields ∷ table_offset c.fields (fields_at c) ∷ c.methods ∷ table_offset c.methods (methods_at c) ∷ c.classes ∷ table_offset c.classes (classes_at c) ∷ []

-- ---- the map

abbrev pub table_rows : Counts → List ℕ
table_rows c = map_row 1 c.strings 112 ++ (map_row 2 c.types (types_at c) ++ (map_row 3 c.protos (protos_at c)
    ++ (map_row 4 c.fields (fields_at c) ++ (map_row 5 c.methods (methods_at c) ++ map_row 6 c.classes (classes_at c)))))

-- the header, the tables and the runs with entries, and the map itself at this place
abbrev pub map_rows : Counts → List Run → ℕ → List ℕ
map_rows c runs at = (0 ∷ 1 ∷ 0 ∷ []) ++ (table_rows c ++ (run_rows runs ++ (0x1000 ∷ 1 ∷ at ∷ [])))

-- how many rows of three numbers these are, and the rows
unfoldable pub map_words : Counts → List Run → ℕ → List ℕ
map_words c runs at = length (map_rows c runs at) / 3 ∷ map_rows c runs at

-- ---- the whole

abbrev pub magic_of : Version → List ℕ
magic_of V035 = 100 ∷ 101 ∷ 120 ∷ 10 ∷ 48 ∷ 51 ∷ 53 ∷ 0 ∷ []
magic_of V037 = 100 ∷ 101 ∷ 120 ∷ 10 ∷ 48 ∷ 51 ∷ 55 ∷ 0 ∷ []

-- the words of the header from file_size on, of a file of this size with its map at this place
unfoldable pub header_words : Counts → ℕ → ℕ → List ℕ
header_words c size map_at = (size ∷ 112 ∷ 0x12345678 ∷ 0 ∷ 0 ∷ map_at ∷ []) ++ (front_pairs c ++ (back_pairs c ++ ((size - data_at c) ∷ data_at c ∷ [])))

-- where the last of the runs ends that stand behind a place
abbrev pub ends_behind : ℕ → List Run → ℕ
ends_behind at [] = at
ends_behind at (run ∷ runs) = ends_behind (end_behind at run) runs

-- where the map begins behind the runs
abbrev pub map_place : Counts → List Run → ℕ
map_place c runs = up (ends_behind (data_at c) runs)

abbrev pub map_text : Counts → List Run → List ℕ
map_text c runs = words (map_words c runs (map_place c runs))

-- all from 32 on: the rest of the header, the tables, the runs, and the map at the next multiple of four
unfoldable pub body_text : Counts → List ℕ → List Run → List ℕ
body_text c tables runs = words (header_words c (map_place c runs + length (map_text c runs)) (map_place c runs))
    ++ (words tables
    ++ (runs_text (data_at c) runs
    ++ (replicate (map_place c runs - ends_behind (data_at c) runs) 0
    ++ map_text c runs)))

-- the magic, the checksum of all behind it, the signature of all from 32 on, and this
unfoldable pub file_text : Version → List ℕ → List ℕ
file_text version body = magic_of version ++ (words (adler_of (sha1 body ++ body) ∷ []) ++ (sha1 body ++ body))

-- the magic, the checksum of all behind it and the signature of all from 32 on stand where they should
pub record IsSealed (version : Version) (bytes : List ℕ) : Type 0 where
  pub magic : take 8 bytes ≡ magic_of version
  pub checksum : Is32 bytes 8 (adler_of (drop 12 bytes))
  pub signature : take 20 (drop 12 bytes) ≡ sha1 (drop 32 bytes)
