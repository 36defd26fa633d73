-- Where the writer's items lie, kind by kind, in its own texts.
use Rattle.std.specs.Prelude.{◌+◌, ℕ, List, [], ◌∷◌, length, map, take, drop, nat_eq, if◌then◌else◌}
use Rattle.std.specs.List.{flat_map}
use Rattle.dex_pools.specs.declared.interner.Interner.{Interner}
use Rattle.dex_pools.specs.Written.{mark_text}
use Rattle.program_model.specs.declared.program.Program.{Program}
use Rattle.dex_write.specs.declared.ordered.MethodPart.{MethodPart}
use Rattle.dex_write.specs.Numbers.{words}
use Rattle.dex_write.specs.Runs.{end_behind}
use Rattle.dex_write.specs.Plans.{Plan}
use Rattle.dex_write.specs.Sets.{counted, set_counts, ref_counts, parameter_offsets, directory_texts, marks_of, mark_starts}
use Rattle.dex_write.specs.Lists.{list_starts, list_text, type_lists}
use Rattle.dex_write.specs.Codes.{code_offset, code_behind, debug_offset, with_debug, parts_of}
use Rattle.dex_write.specs.Data.{data_texts, array_text, string_texts}
use Rattle.dex_write.specs.File.{data_at}
use Rattle.dex_write.specs.Places.{counts_of, front_of, back_of}
use Rattle.dex_defs.specs.Arranged.{Lie}
use Rattle.dex_defs.specs.Valid.{Stops}

-- ---- the texts of items that are written from lists of numbers, and where they are named

-- lists of so many of the entries each, every entry so far behind a base
abbrev pub entry_texts : ℕ → List ℕ → List ℕ → List (List ℕ)
entry_texts base [] entries = []
entry_texts base (n ∷ ns) entries = words (counted base n (take n entries)) ∷ entry_texts base ns (drop n entries)

-- the code items of methods, whose debug items stand from a place on
abbrev pub item_text : ℕ → MethodPart → List ℕ
item_text debug m = if nat_eq (length m.code) 0 then [] else with_debug debug m.code

abbrev pub item_texts : ℕ → List MethodPart → List (List ℕ)
item_texts lines_at [] = []
item_texts lines_at (m ∷ ms) = item_text (debug_offset lines_at m) m ∷ item_texts (lines_at + length m.lines) ms

abbrev pub code_offsets : ℕ → List MethodPart → List ℕ
code_offsets at [] = []
code_offsets at (m ∷ ms) = code_offset at m ∷ code_offsets (code_behind at m) ms

abbrev pub line_offsets : ℕ → List MethodPart → List ℕ
line_offsets at [] = []
line_offsets at (m ∷ ms) = debug_offset at m ∷ line_offsets (at + length m.lines) ms

-- ---- the whole

-- where each kind ends
unfoldable pub stops_of : Program → Interner → List Plan → Stops
stops_of p i plans =
    let f = front_of p i plans (data_at (counts_of i plans)) in
    let b = back_of p i.numbers plans (front_of p i plans (data_at (counts_of i plans))) in
    let lines = end_behind f.strings.end b.lines in
    let marks = end_behind lines b.marks in
    record {
      lists = end_behind (data_at (counts_of i plans)) f.lists.run;
      refs = f.refs.end;
      sets = f.sets.end;
      codes = f.code.end;
      directories = f.directories.end;
      members = f.data.end;
      strings = f.strings.end;
      lines = lines;
      marks = marks;
      values = end_behind marks b.firsts.run;
    }

-- the ten kinds
pub record AllLie (bytes : List ℕ) (p : Program) (i : Interner) (plans : List Plan) : Type 0 where
  pub lists : Lie bytes 4 (data_at (counts_of i plans)) (list_starts (data_at (counts_of i plans)) (type_lists p i plans)) (map list_text (type_lists p i plans)) (stops_of p i plans).lists
  pub refs : Lie bytes 4 (stops_of p i plans).lists (front_of p i plans (data_at (counts_of i plans))).refs.offsets (entry_texts 0 (flat_map ref_counts plans) (parameter_offsets plans (front_of p i plans (data_at (counts_of i plans))).sets.offsets)) (stops_of p i plans).refs
  pub sets : Lie bytes 4 (stops_of p i plans).refs (front_of p i plans (data_at (counts_of i plans))).sets.offsets (entry_texts (stops_of p i plans).lines (flat_map set_counts plans) (mark_starts i.numbers 0 (flat_map (marks_of i.numbers) plans))) (stops_of p i plans).sets
  pub codes : Lie bytes 4 (stops_of p i plans).sets (code_offsets (front_of p i plans (data_at (counts_of i plans))).code.at (parts_of plans)) (item_texts (stops_of p i plans).strings (parts_of plans)) (stops_of p i plans).codes
  pub directories : Lie bytes 4 (stops_of p i plans).codes (front_of p i plans (data_at (counts_of i plans))).directories.offsets (directory_texts plans (front_of p i plans (data_at (counts_of i plans))).sets.offsets (front_of p i plans (data_at (counts_of i plans))).refs.offsets) (stops_of p i plans).directories
  pub members : Lie bytes 1 (stops_of p i plans).directories (front_of p i plans (data_at (counts_of i plans))).data.offsets (data_texts (front_of p i plans (data_at (counts_of i plans))).code.at plans) (stops_of p i plans).members
  pub strings : Lie bytes 1 (stops_of p i plans).members (front_of p i plans (data_at (counts_of i plans))).strings.offsets (string_texts p.strings i.order.strings.items) (stops_of p i plans).strings
  pub lines : Lie bytes 1 (stops_of p i plans).strings (line_offsets (stops_of p i plans).strings (parts_of plans)) (map (λ m. m.lines) (parts_of plans)) (stops_of p i plans).lines
  pub marks : Lie bytes 1 (stops_of p i plans).lines (map (λ start. (stops_of p i plans).lines + start) (mark_starts i.numbers 0 (flat_map (marks_of i.numbers) plans))) (map (mark_text i.numbers) (flat_map (marks_of i.numbers) plans)) (stops_of p i plans).marks
  pub values : Lie bytes 1 (stops_of p i plans).marks (back_of p i.numbers plans (front_of p i plans (data_at (counts_of i plans)))).firsts.offsets (map (array_text p i.numbers) plans) (stops_of p i plans).values
