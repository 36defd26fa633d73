-- Sets of annotations, as they are read.
use Rattle.std.specs.Prelude.{ℕ, ◌+◌, ◌*◌, List, [], length, min, Bool, Result, Ok, nat_lt, ◌==◌, if◌then◌else◌}
use Rattle.dex_base.specs.Reading.{◌>>=◌}
use Rattle.program_model.specs.declared.limits.Counted.TheVariants.{Items}
use Rattle.program_model.specs.declared.value.EncValue.{EncValue}
use Rattle.program_model.specs.declared.value.Note.{out-Note}
use Rattle.program_model.specs.declared.value.Mark.{Mark}
use Rattle.dex_pools.specs.declared.fault.PoolFault.{PoolFault}
use Rattle.dex_pools.specs.declared.fault.Table.TheVariants.{Members}
use Rattle.dex_pools.specs.declared.scalar.TableSizes.{TableSizes}
use Rattle.dex_pools.specs.declared.pools.Pools.{Pools}
use Rattle.dex_pools.specs.Items.{spend, count_at}
use Rattle.dex_pools.specs.Order.{ascends_in}
use Rattle.dex_pools.specs.Run.{run}
use Rattle.dex_pools.specs.Value.{byte_at, whole_note_at}
use Rattle.dex_pools.specs.Word.{word_at}

-- how many entries the tables have, as a number of 32 bits
abbrev pub sizes_of : Pools → TableSizes
sizes_of pools = record {
  strings = min (length pools.strings) 4294967295;
  types = min (length pools.types) 4294967295;
  fields = min (length pools.fields) 4294967295;
  methods = min (length pools.methods) 4294967295;
}

-- a value and the place behind it, without what it leaves
abbrev pub alone : Result (EncValue × (ℕ × ℕ)) PoolFault → Result (EncValue × ℕ) PoolFault
alone read = read >>= λ r. Ok (r.0, r.1.0)

-- the annotation at this place, and what it leaves of the items
unfoldable pub mark_at : List ℕ → TableSizes → ℕ → ℕ → Result (Mark × ℕ) PoolFault
mark_at bytes sizes at left = do
  visibility ← byte_at bytes at
  note ← whole_note_at bytes sizes (at + 1, left)
  Ok (record { visibility = visibility; note = note.0 }, note.1.1)

-- the annotation that the entry of this number of the set at this place names
unfoldable pub marked_at : List ℕ → TableSizes → ℕ → ℕ → ℕ → Result (Mark × ℕ) PoolFault
marked_at bytes sizes at i left = do
  behind ← spend Items 1 left
  offset ← word_at bytes (at + 4 + 4 * i)
  mark_at bytes sizes offset behind

-- annotations stand in the order of their types
abbrev pub mark_below : Mark → Mark → Bool
mark_below a b = nat_lt (out-Note a.note).class (out-Note b.note).class

-- the set at this place, and what it leaves of the items
unfoldable pub marks_at : List ℕ → TableSizes → ℕ → ℕ → Result (List Mark × ℕ) PoolFault
marks_at bytes sizes at left = do
  count ← count_at bytes at 4
  marks ← run (marked_at bytes sizes at) 0 count left
  order ← ascends_in mark_below Members marks.0
  Ok marks

-- the set that the entry of this number of the list at this place names; 0 stands for the empty one
unfoldable pub parameter_at : List ℕ → TableSizes → ℕ → ℕ → ℕ → Result (List Mark × ℕ) PoolFault
parameter_at bytes sizes at i left = do
  behind ← spend Items 1 left
  offset ← word_at bytes (at + 4 + 4 * i)
  if offset == 0 then Ok ([], behind) else marks_at bytes sizes offset behind

-- the sets of the list at this place, and what they leave of the items
unfoldable pub parameters_marks_at : List ℕ → TableSizes → ℕ → ℕ → Result (List (List Mark) × ℕ) PoolFault
parameters_marks_at bytes sizes at left = count_at bytes at 4 >>= λ count. run (parameter_at bytes sizes at) 0 count left
