-- What an instruction does to an array (Dalvik bytecode, "array-length", "new-array", "filled-new-array",
-- "fill-array-data", "aget", "aput").
use Rattle.std.specs.Prelude.{ℕ, ℤ, pos, negsuc, Bool, true, false, ◌||◌, List, [], map, length, replicate, Option, Some, None, nat_lt, slice_get, slice_set}
use Rattle.insn_set.specs.declared.ops.Item.{Item}
use Rattle.insn_set.specs.declared.ops.Item.TheVariants as item
use Rattle.dalvik_defs.specs.Names.{Text, item_of}
use Rattle.dalvik_defs.specs.Known.{negative_size, out_of_bounds, bad_store}
use Rattle.dalvik_defs.specs.Items.{stored, fill}
use Rattle.dalvik_defs.specs.State.{World, Value, Word, Frame, Thing, Instance, Items, is_null, zero_of, put_thing, next_object, with_thing, kind_of}
use Rattle.dalvik_defs.specs.Effect.{Effect, Goes, Faults, Stuck, register, write_item, next, sets}

abbrev pub measures : Option Thing → World → Frame → ℕ → Effect
measures (Some (Items k vs)) w f to = sets w f to (Word (length vs))
measures (Some (Instance c fs)) w f to = Stuck
measures None w f to = Stuck

-- an array whose items are all zero
abbrev pub zeros : Text → ℕ → Thing
zeros kind n = Items kind (replicate n (zero_of kind))

abbrev pub new_array : ℤ → Text → World → Frame → ℕ → Effect
new_array (negsuc n) kind w f to = Faults negative_size
new_array (pos n) kind w f to = sets (with_thing w (zeros (item_of kind) n)) f to (next_object w)

-- an array of what stands in registers is the result that a move-result reads
abbrev pub filled_array : Text → List ℕ → World → Frame → Effect
filled_array kind args w f = Goes (with_thing w (Items (item_of kind) (map (register f) args))) (next (record f { result = next_object w }))

abbrev pub fills : Option Thing → World → Frame → Value → List ℕ → Effect
fills (Some (Items k vs)) w f on ns = elim (nat_lt (length vs) (length ns)) [
  | true ↦ Faults out_of_bounds
  | false ↦ Goes (put_thing w on (Items k (fill k ns vs))) (next f)
]
fills (Some (Instance c fs)) w f on ns = Stuck
fills None w f on ns = Stuck

-- the item at a place, where there is one
abbrev pub item_at : List Value → ℤ → Option Value
item_at vs (negsuc n) = None
item_at vs (pos n) = slice_get vs n

abbrev pub reads_item : Item → Option Value → World → Frame → ℕ → Effect
reads_item i None w f to = Faults out_of_bounds
reads_item i (Some v) w f to = Goes w (next (write_item i f to v))

abbrev pub array_get : Item → Option Thing → World → Frame → ℕ → ℤ → Effect
array_get i (Some (Items k vs)) w f to at = reads_item i (item_at vs at) w f to
array_get i (Some (Instance c fs)) w f to at = Stuck
array_get i None w f to at = Stuck

-- an object is stored where it is null or under the item type
abbrev pub may_store : (Text → Text → Bool) → World → Item → Value → Text → Bool
may_store under w item.Object v kind = is_null v || under (kind_of w v) kind
may_store under w i v kind = true

abbrev pub writes_item : Bool → World → Frame → Value → Thing → Effect
writes_item true w f on t = Goes (put_thing w on t) (next f)
writes_item false w f on t = Faults bad_store

abbrev pub put_item : Item → Text → List Value → ℤ → Value → Thing
put_item i k vs (pos n) v = Items k (slice_set vs n (stored i v))
put_item i k vs (negsuc n) v = Items k vs

abbrev pub array_put : (Text → Text → Bool) → Item → Option Thing → World → Frame → Value → Value → ℤ → Effect
array_put under i (Some (Items k vs)) w f v on at = elim (item_at vs at) [
  | Some old ↦ writes_item (may_store under w i v k) w f on (put_item i k vs at v)
  | None ↦ Faults out_of_bounds
]
array_put under i (Some (Instance c fs)) w f v on at = Stuck
array_put under i None w f v on at = Stuck
