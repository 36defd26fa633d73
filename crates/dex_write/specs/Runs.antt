-- Runs of items of one kind, and how they lie one behind another (Dalvik executable format, "map_list").
use Rattle.std.specs.Prelude.{ℕ, ◌+◌, ◌-◌, List, [], ◌∷◌, ◌++◌, length, replicate, nat_eq, if◌then◌else◌}
use Rattle.std.specs.List.{flat_map}
use Rattle.dex_write.specs.declared.run.Kind.{Kind}
use Rattle.dex_write.specs.declared.run.Kind.TheVariants.{TypeList, AnnotationSetRefList, AnnotationSet, CodeItem, AnnotationsDirectory, ClassData, StringData, DebugInfo, Annotation, EncodedArray, MapList}
use Rattle.dex_write.specs.declared.run.Run.{Run}

-- the code of a kind in the map
abbrev pub kind_code : Kind → ℕ
kind_code MapList = 0x1000
kind_code TypeList = 0x1001
kind_code AnnotationSetRefList = 0x1002
kind_code AnnotationSet = 0x1003
kind_code ClassData = 0x2000
kind_code CodeItem = 0x2001
kind_code StringData = 0x2002
kind_code DebugInfo = 0x2003
kind_code Annotation = 0x2004
kind_code EncodedArray = 0x2005
kind_code AnnotationsDirectory = 0x2006

-- where a run without items leaves the place as it is, and where another one ends
abbrev pub end_behind : ℕ → Run → ℕ
end_behind at run = if nat_eq run.count 0 then at else run.at + length run.bytes

-- a run with items, behind zeros up to where it begins
abbrev pub run_text : ℕ → Run → List ℕ
run_text at run = if nat_eq run.count 0 then [] else replicate (run.at - at) 0 ++ run.bytes

abbrev pub runs_text : ℕ → List Run → List ℕ
runs_text at [] = []
runs_text at (run ∷ runs) = run_text at run ++ runs_text (end_behind at run) runs

-- the entry of a run with items in the map: its kind, how many items it has, and where the first one begins
abbrev pub map_row : ℕ → ℕ → ℕ → List ℕ
map_row code count at = if nat_eq count 0 then [] else code ∷ count ∷ at ∷ []

abbrev pub run_rows : List Run → List ℕ
run_rows runs = flat_map (λ run. map_row (kind_code run.kind) run.count run.at) runs
