-- The annotations of a class and its members, as they are read (Dalvik executable format, "annotations_directory_item").
use Rattle.std.specs.Prelude.{ℕ, ◌+◌, ◌*◌, List, [], ◌++◌, Option, Some, None, Result, Ok, Err, nat_eq, nat_lt, if◌then◌else◌}
use Rattle.dex_base.specs.Reading.{◌>>=◌, raise}
use Rattle.program_model.specs.declared.program.Field.{Field}
use Rattle.program_model.specs.declared.program.Method.{Method}
use Rattle.program_model.specs.declared.program.Program.{Program}
use Rattle.program_model.specs.declared.value.Mark.{Mark}
use Rattle.dex_pools.specs.declared.fault.PoolFault.TheVariants.{Index}
use Rattle.dex_pools.specs.Marks.{marks_at, parameters_marks_at}
use Rattle.dex_read.specs.declared.class_data.Listed.{Listed}
use Rattle.dex_read.specs.declared.class_data.Members.{Members}
use Rattle.dex_read.specs.declared.directory.MarkCounts.{MarkCounts}
use Rattle.dex_read.specs.declared.fault.DexFault.{DexFault}
use Rattle.dex_read.specs.declared.fault.DexFault.TheVariants.{Pool, Member}
use Rattle.dex_read.specs.ClassData.{ascends_at, place_in}
use Rattle.dex_read.specs.Faults.{of_pool}
use Rattle.dex_read.specs.Header.{need_at}
use Rattle.dex_read.specs.Steps.{steps, change_at}
use Rattle.dex_read.specs.Tables.{sizes_in}
use Rattle.dex_read.specs.Word.{word_at}

-- the set at this offset, and what it leaves of the items; the offset 0 stands for none
unfoldable pub set_at : List ℕ → Program → ℕ → ℕ → Result (List Mark × ℕ) DexFault
set_at bytes p offset left = if nat_eq offset 0 then Ok ([], left) else raise of_pool (marks_at bytes (sizes_in p) offset left)

-- the sets of parameters
unfoldable pub sets_at : List ℕ → Program → ℕ → ℕ → Result (List (List Mark) × ℕ) DexFault
sets_at bytes p offset left = if nat_eq offset 0 then Ok ([], left) else raise of_pool (parameters_marks_at bytes (sizes_in p) offset left)

-- a pair at this place: a member's number, and an offset
unfoldable pub pair_at : List ℕ → ℕ → ℕ → Result (ℕ × ℕ) DexFault
pair_at bytes size at = do
  number ← word_at bytes at
  offset ← word_at bytes (at + 4)
  if nat_lt number size then Ok (number, offset) else Err (Pool (Index at number size))

-- where the class data lists the member
abbrev pub found_at : ℕ → ℕ → Option ℕ → Result ℕ DexFault
found_at class place None = Err (Member class place)
found_at class place (Some found) = Ok found

-- the pair of this number of a list whose first one stands at this place: where its member stands, and its offset
unfoldable pub named_at : List ℕ → ℕ → ℕ → List Listed → ℕ → ℕ → ℕ → Result (ℕ × (ℕ × ℕ)) DexFault
named_at bytes class size listed at i before = do
  pair ← pair_at bytes size (at + 8 * i)
  order ← ascends_at i before pair.0
  found ← found_at class i (place_in pair.0 listed)
  Ok (found, pair)

abbrev pub with_marks : List Mark → Field → Field
with_marks marks f = record f { marks = marks }

abbrev pub with_own_marks : List Mark → Method → Method
with_own_marks marks m = record m { marks = marks }

abbrev pub with_parameter_marks : List (List Mark) → Method → Method
with_parameter_marks marks m = record m { parameter_marks = marks }

-- One pair's annotations. What is handed on: the members as they are by then, the number of the pair, and what is left of the items.
unfoldable pub mark_field : List ℕ → Program → ℕ → List Listed → ℕ → ℕ → List Field × (ℕ × ℕ) → Result (List Field × (ℕ × ℕ)) DexFault
mark_field bytes p class listed at i s = do
  named ← named_at bytes class (sizes_in p).fields listed at i s.1.0
  marks ← set_at bytes p named.1.1 s.1.1
  Ok (change_at (with_marks marks.0) named.0 s.0, (named.1.0, marks.1))

unfoldable pub mark_method : List ℕ → Program → ℕ → List Listed → ℕ → ℕ → List Method × (ℕ × ℕ) → Result (List Method × (ℕ × ℕ)) DexFault
mark_method bytes p class listed at i s = do
  named ← named_at bytes class (sizes_in p).methods listed at i s.1.0
  marks ← set_at bytes p named.1.1 s.1.1
  Ok (change_at (with_own_marks marks.0) named.0 s.0, (named.1.0, marks.1))

unfoldable pub mark_parameters : List ℕ → Program → ℕ → List Listed → ℕ → ℕ → List Method × (ℕ × ℕ) → Result (List Method × (ℕ × ℕ)) DexFault
mark_parameters bytes p class listed at i s = do
  named ← named_at bytes class (sizes_in p).methods listed at i s.1.0
  marks ← sets_at bytes p named.1.1 s.1.1
  Ok (change_at (with_parameter_marks marks.0) named.0 s.0, (named.1.0, marks.1))

-- the members of a class with what stands in its directory, the annotations of the class itself, and what is left of the items
pub record Marked : Type 0 where
  pub marks : List Mark
  pub fields : List Field
  pub methods : List Method
  pub left : ℕ

abbrev pub marked : List Mark → List Field → List Method → ℕ → Marked
marked marks fields methods left = record { marks = marks; fields = fields; methods = methods; left = left }

-- the members with the annotations of the lists of so many pairs in the directory at this place; those of the class are handed on
abbrev pub marked_members : List ℕ → Program → ℕ → Members → ℕ → MarkCounts → List Mark × ℕ → List Field → List Method → Result Marked DexFault
marked_members bytes p class listed at counts marks fields methods = do
  own_fields ← steps (mark_field bytes p class (listed.statics ++ listed.instances) (at + 16)) 0 counts.fields (fields, (0, marks.1))
  own ← steps (mark_method bytes p class (listed.directs ++ listed.virtuals) (at + 16 + 8 * counts.fields)) 0 counts.methods (methods, (0, own_fields.1.1))
  all ← steps (mark_parameters bytes p class (listed.directs ++ listed.virtuals) (at + 16 + 8 * counts.fields + 8 * counts.methods)) 0 counts.parameters (own.0, (0, own.1.1))
  Ok (marked marks.0 own_fields.0 all.0 all.1.1)

unfoldable pub directory_at : List ℕ → Program → ℕ → Members → ℕ → List Field → List Method → ℕ → Result Marked DexFault
directory_at bytes p class listed at fields methods left = do
  begins ← need_at bytes at 16
  set ← word_at bytes at
  field_count ← word_at bytes (at + 4)
  method_count ← word_at bytes (at + 8)
  parameter_count ← word_at bytes (at + 12)
  whole ← need_at bytes at (16 + 8 * field_count + 8 * method_count + 8 * parameter_count)
  marks ← set_at bytes p set left
  own_fields ← steps (mark_field bytes p class (listed.statics ++ listed.instances) (at + 16)) 0 field_count (fields, (0, marks.1))
  own ← steps (mark_method bytes p class (listed.directs ++ listed.virtuals) (at + 16 + 8 * field_count)) 0 method_count (methods, (0, own_fields.1.1))
  all ← steps (mark_parameters bytes p class (listed.directs ++ listed.virtuals) (at + 16 + 8 * field_count + 8 * method_count)) 0 parameter_count (own.0, (0, own.1.1))
  Ok (marked marks.0 own_fields.0 all.0 all.1.1)
