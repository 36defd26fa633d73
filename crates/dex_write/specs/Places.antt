-- Which runs of items stand where (Dalvik executable format, "map_list").
use Rattle.std.specs.Prelude.{ℕ, List, [], ◌∷◌, length, map, nat_eq, if◌then◌else◌}
use Rattle.std.specs.List.{flat_map, concat}
use Rattle.dex_pools.specs.declared.interner.Interner.{Interner}
use Rattle.dex_pools.specs.Written.{mark_text}
use Rattle.program_model.specs.declared.pass.Renumber.{Renumber}
use Rattle.program_model.specs.declared.program.Program.{Program}
use Rattle.dex_write.specs.declared.numbers.Items.{Items}
use Rattle.dex_write.specs.declared.run.Kind.{Kind}
use Rattle.dex_write.specs.declared.run.Kind.TheVariants.{AnnotationSetRefList, AnnotationSet, CodeItem, AnnotationsDirectory, ClassData, StringData, DebugInfo, Annotation, EncodedArray}
use Rattle.dex_write.specs.declared.run.Run.{Run}
use Rattle.dex_write.specs.declared.file.Counts.{Counts}
use Rattle.dex_write.specs.declared.writer.Placed.{Placed}
use Rattle.dex_write.specs.declared.writer.Words.{Words}
use Rattle.dex_write.specs.declared.writer.CodePlaces.{CodePlaces}
use Rattle.dex_write.specs.declared.writer.Front.{Front}
use Rattle.dex_write.specs.declared.writer.Marks.{Marks}
use Rattle.dex_write.specs.declared.writer.Back.{Back}
use Rattle.dex_write.specs.declared.writer.Parts.{Parts}
use Rattle.dex_write.specs.Numbers.{words, up, count_some, text_offsets}
use Rattle.dex_write.specs.Runs.{end_behind}
use Rattle.dex_write.specs.Plans.{Plan}
use Rattle.dex_write.specs.Sets.{lists_of, offsets_at, ends_at, set_counts, ref_counts, parameter_offsets, directory_texts, marks_of, mark_starts}
use Rattle.dex_write.specs.Lists.{lists_at}
use Rattle.dex_write.specs.Codes.{parts_of, count_codes, count_lines, codes_behind, codes_text}
use Rattle.dex_write.specs.Data.{data_texts, array_text, string_texts}
use Rattle.dex_write.specs.Tables.{table_words}
use Rattle.dex_write.specs.File.{data_at, body_text, file_text}

-- ---- runs of items whose places are known when they are written

-- texts one behind another, and where each stands
abbrev pub items_of : ℕ → List (List ℕ) → Items
items_of at texts = record { bytes = concat texts; offsets = text_offsets at texts }

abbrev pub items_run : Kind → ℕ → Items → Run
items_run kind at items = record { kind = kind; count = count_some items.offsets; at = at; bytes = items.bytes }

-- the run of these items from a place on, where the runs before it end at another
abbrev pub placed_items : Kind → ℕ → ℕ → Items → Placed
placed_items kind before at items = record { run = items_run kind at items; offsets = items.offsets; end = end_behind before (items_run kind at items) }

-- ---- lists of four-byte entries, whose places are known before their entries

abbrev pub words_end : ℕ → List ℕ → ℕ
words_end before counts = if nat_eq (count_some counts) 0 then before else ends_at (up before) counts

unfoldable pub words_behind : ℕ → List ℕ → Words
words_behind before counts = record { counts = counts; offsets = offsets_at (up before) counts; at = up before; end = words_end before counts }

unfoldable pub words_run : Kind → Words → List ℕ → ℕ → Run
words_run kind lists entries base = record { kind = kind; count = count_some lists.counts; at = lists.at; bytes = words (lists_of base lists.counts entries) }

-- ---- the runs up to the strings

abbrev pub refs_behind : ℕ → List Plan → Words
refs_behind before plans = words_behind before (flat_map ref_counts plans)

abbrev pub sets_behind : ℕ → List Plan → Words
sets_behind before plans = words_behind before (flat_map set_counts plans)

-- where the code ends, of which there are so many items, behind runs that end at a place
abbrev pub codes_end : ℕ → ℕ → List Plan → ℕ
codes_end before count plans = if nat_eq count 0 then before else codes_behind (up before) (parts_of plans)

unfoldable pub places_behind : ℕ → List Plan → CodePlaces
places_behind before plans = record { at = up before; end = codes_end before (count_codes (parts_of plans)) plans; counts = record { code = count_codes (parts_of plans); lines = count_lines (parts_of plans) } }

unfoldable pub directories_behind : ℕ → List Plan → Words → Words → Placed
directories_behind before plans sets refs = placed_items AnnotationsDirectory before (up before) (items_of (up before) (directory_texts plans sets.offsets refs.offsets))

unfoldable pub data_behind : ℕ → List Plan → ℕ → Placed
data_behind at plans code_at = placed_items ClassData at at (items_of at (data_texts code_at plans))

unfoldable pub strings_behind : ℕ → Program → Interner → Placed
strings_behind at p i = placed_items StringData at at (items_of at (string_texts p.strings i.order.strings.items))

-- the first run stands at this place
unfoldable pub front_of : Program → Interner → List Plan → ℕ → Front
front_of p i plans at =
    let lists = lists_at p i plans at in
    let refs = refs_behind (end_behind at lists.run) plans in
    let sets = sets_behind refs.end plans in
    let code = places_behind sets.end plans in
    let directories = directories_behind code.end plans sets refs in
    let class_data = data_behind directories.end plans code.at in
    record { lists = lists; refs = refs; sets = sets; code = code; directories = directories; «data» = class_data; strings = strings_behind class_data.end p i }

-- ---- the runs behind them, and the bytes of those that waited for their places

unfoldable pub codes_run : List Plan → CodePlaces → ℕ → Run
codes_run plans code lines_at = record { kind = CodeItem; count = code.counts.code; at = code.at; bytes = codes_text code.at lines_at (parts_of plans) }

unfoldable pub lines_run : List Plan → ℕ → ℕ → Run
lines_run plans count at = record { kind = DebugInfo; count = count; at = at; bytes = flat_map (λ m. m.lines) (parts_of plans) }

unfoldable pub refs_run : List Plan → Words → Words → Run
refs_run plans refs sets = words_run AnnotationSetRefList refs (parameter_offsets plans sets.offsets) 0

abbrev pub marks_run : Renumber → List Plan → ℕ → Run
marks_run r plans at = record { kind = Annotation; count = length (mark_starts r 0 (flat_map (marks_of r) plans)); at = at; bytes = flat_map (mark_text r) (flat_map (marks_of r) plans) }

unfoldable pub marks_behind : Renumber → List Plan → Words → ℕ → Marks
marks_behind r plans sets at = record { sets = words_run AnnotationSet sets (mark_starts r 0 (flat_map (marks_of r) plans)) at; marks = marks_run r plans at }

unfoldable pub firsts_behind : ℕ → Program → Renumber → List Plan → Placed
firsts_behind at p r plans = placed_items EncodedArray at at (items_of at (map (array_text p r) plans))

unfoldable pub back_of : Program → Renumber → List Plan → Front → Back
back_of p r plans front =
    let lines = lines_run plans front.code.counts.lines front.strings.end in
    let at = end_behind front.strings.end lines in
    let marks = marks_behind r plans front.sets at in
    record { lines = lines; codes = codes_run plans front.code front.strings.end; refs = refs_run plans front.refs front.sets; sets = marks.sets; marks = marks.marks; firsts = firsts_behind (end_behind at marks.marks) p r plans }

-- ---- the whole

-- how many entries the tables have
abbrev pub counts_of : Interner → List Plan → Counts
counts_of i plans = record {
  strings = length i.order.strings.items;
  types = length i.order.types.items;
  protos = length i.order.protos.items;
  fields = length i.order.fields.items;
  methods = length i.order.methods.items;
  classes = length plans;
}

-- the file of the tables of these entries and classes, and of runs of items
abbrev pub file_with : Program → Interner → List Plan → Parts → List Run → List ℕ
file_with p i plans parts runs = file_text p.version (body_text (counts_of i plans) (table_words p i plans parts.strings parts.parameters parts.offsets) runs)

abbrev pub parts_in : Front → Back → Parts
parts_in front back = record {
  strings = front.strings.offsets;
  parameters = front.lists.parameters;
  offsets = record { interfaces = front.lists.interfaces; directories = front.directories.offsets; «data» = front.data.offsets; firsts = back.firsts.offsets };
}

abbrev pub runs_in : Front → Back → List Run
runs_in front back = front.lists.run ∷ back.refs ∷ back.sets ∷ back.codes ∷ front.directories.run ∷ front.data.run ∷ front.strings.run ∷ back.lines ∷ back.marks ∷ back.firsts.run ∷ []

-- the offsets and the runs of a program that uses these entries and whose classes are these, the first run standing at a place
abbrev pub parts_at : Program → Interner → List Plan → ℕ → Parts
parts_at p i plans at = parts_in (front_of p i plans at) (back_of p i.numbers plans (front_of p i plans at))

abbrev pub runs_at : Program → Interner → List Plan → ℕ → List Run
runs_at p i plans at = runs_in (front_of p i plans at) (back_of p i.numbers plans (front_of p i plans at))

-- the file of a program that uses these entries and whose classes are these
unfoldable pub file_for : Program → Interner → List Plan → List ℕ
file_for p i plans =
    let front = front_of p i plans (data_at (counts_of i plans)) in
    let back = back_of p i.numbers plans front in
    file_with p i plans (parts_in front back) (runs_in front back)
