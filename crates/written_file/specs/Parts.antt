-- The parts of the written file: of its classes, and its sets of annotations.
use Rattle.std.specs.Prelude.{◌+◌, ℕ, suc, List, [], ◌∷◌, length, map, take, drop, Option, Some, None, slice_get}
use Rattle.std.specs.List.{flat_map}
use Rattle.dex_pools.specs.declared.interner.Interner.{Interner}
use Rattle.program_model.specs.declared.pass.Renumber.{Renumber}
use Rattle.program_model.specs.declared.value.EncValue.{EncValue}
use Rattle.program_model.specs.declared.value.EncValue.TheVariants as value
use Rattle.program_model.specs.declared.value.Mark.{Mark}
use Rattle.program_model.specs.declared.program.Field.{Field}
use Rattle.program_model.specs.declared.program.Program.{Program}
use Rattle.program_model.specs.MemberRules.{field_letter}
use Rattle.dex_write.specs.declared.ordered.MethodPart.{MethodPart}
use Rattle.dex_write.specs.declared.tables.ClassOffsets.{ClassOffsets}
use Rattle.dex_write.specs.Numbers.{at_place}
use Rattle.dex_write.specs.Plans.{Plan, in_order}
use Rattle.dex_write.specs.Codes.{codes_behind, debug_offset, lines_behind}
use Rattle.dex_write.specs.Sets.{sets_of, ref_counts, own_offsets, behind_class, field_pairs, method_pairs, marks_of, mark_starts}
use Rattle.dex_write.specs.Data.{first_count, value_or}
use Rattle.dex_write.specs.File.{data_at}
use Rattle.dex_write.specs.Places.{counts_of, front_of, back_of, parts_in}
use Rattle.dex_defs.specs.Annotations.{Directory}
use Rattle.dex_defs.specs.Valid.{CodePart, ClassPart, SetPart}
use Rattle.dex_defs.specs.Written.{new_value, new_marks}
use Rattle.write_laws.specs.Placing.{item_text, stops_of}
use Rattle.write_laws.specs.Listing.{def_of, lists_in}

-- ---- the parts

-- where the first list has so many of these, and so on
abbrev pub split_by : List ℕ → List ℕ → List (List ℕ)
split_by [] xs = []
split_by (n ∷ ns) xs = take n xs ∷ split_by ns (drop n xs)

abbrev pub directory_of : Plan → List ℕ → List ℕ → Directory
directory_of p sets refs = record {
  class = at_place sets 0;
  fields = in_order (field_pairs p.fields 0 (drop 1 sets));
  methods = in_order (method_pairs p.methods 0 (drop (length p.fields) (drop 1 sets)));
  parameters = in_order (method_pairs p.methods 0 refs);
}

abbrev pub code_parts : ℕ → List MethodPart → List CodePart
code_parts at [] = []
code_parts at (m ∷ ms) = record { debug = debug_offset at m; text = item_text (debug_offset at m) m; lines = m.lines } ∷ code_parts (at + length m.lines) ms

abbrev pub class_part : Renumber → ClassOffsets → (Plan → List EncValue) → ℕ → ℕ → ℕ → List ℕ → List ℕ → Plan → ClassPart
class_part r offsets values place code_at lines_at sets refs p = record {
  def = def_of r p.class offsets place;
  lists = lists_in p code_at;
  directory = directory_of p sets refs;
  values = values p;
  codes = code_parts lines_at p.methods;
  refs = split_by (ref_counts p) (own_offsets p sets);
}

abbrev pub class_parts : Renumber → ClassOffsets → (Plan → List EncValue) → ℕ → ℕ → ℕ → List ℕ → List ℕ → List Plan → List ClassPart
class_parts r offsets values place code_at lines_at sets refs [] = []
class_parts r offsets values place code_at lines_at sets refs (p ∷ ps) = class_part r offsets values place code_at lines_at sets refs p
    ∷ class_parts r offsets values (suc place) (codes_behind code_at p.methods) (lines_behind lines_at p.methods) (behind_class p sets) (drop (length p.methods) refs) ps

-- ---- sets

-- sets whose annotations begin so far behind a base
abbrev pub found_sets : Renumber → ℕ → List (List Mark) → List ℕ → List SetPart
found_sets r base [] starts = []
found_sets r base (ms ∷ mss) starts = record { marks = new_marks r ms; offsets = map (λ s. base + s) (take (length ms) starts) } ∷ found_sets r base mss (drop (length ms) starts)

-- ---- first values

-- the value of a static field in new numbers, zero, false or null where it has none
abbrev pub one_value : Program → Renumber → Option Field → EncValue
one_value p r None = value.Null
one_value p r (Some f) = new_value r (value_or (field_letter p (slice_get p.fields f.name)) f.first)

-- those of the static fields up to the last one that has a first value
abbrev pub first_values : Program → Renumber → Plan → List EncValue
first_values p r plan = map (λ f. one_value p r (slice_get plan.class.fields f.1)) (take (first_count plan.class 0 0 (take plan.statics plan.fields)) (take plan.statics plan.fields))

-- ---- those of the file

abbrev pub offsets_of : Program → Interner → List Plan → ClassOffsets
offsets_of p i plans = (parts_in (front_of p i plans (data_at (counts_of i plans))) (back_of p i.numbers plans (front_of p i plans (data_at (counts_of i plans))))).offsets

abbrev pub parts_of_file : Program → Interner → List Plan → List ClassPart
parts_of_file p i plans = class_parts i.numbers (offsets_of p i plans) (first_values p i.numbers) 0 (front_of p i plans (data_at (counts_of i plans))).code.at (stops_of p i plans).strings (front_of p i plans (data_at (counts_of i plans))).sets.offsets (front_of p i plans (data_at (counts_of i plans))).refs.offsets plans

abbrev pub sets_of_file : Program → Interner → List Plan → List SetPart
sets_of_file p i plans = found_sets i.numbers (stops_of p i plans).lines (flat_map sets_of plans) (mark_starts i.numbers 0 (flat_map (marks_of i.numbers) plans))
