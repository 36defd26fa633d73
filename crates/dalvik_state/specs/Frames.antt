-- What a write does to a frame.
use Rattle.std.specs.Prelude.{◌≡◌, ℕ, ◌+◌, ◌<◌, ◌%◌, ◌^◌, Bool, true, false, List, [], ◌∷◌, nat_eq, slice_set, slice_index_or}
use Rattle.std.specs.Int.{w8, w16}
use Rattle.dalvik_defs.specs.Arith.{low_signed}
use Rattle.insn_set.specs.declared.ops.Item.{Item}
use Rattle.insn_set.specs.declared.ops.Item.TheVariants as item
use Rattle.insn_set.specs.declared.ops.Slot.{Slot}
use Rattle.insn_set.specs.declared.ops.Slot.TheVariants as slot
use Rattle.dalvik_state.specs.declared.datum.Datum.{Datum}
use Rattle.dalvik_state.specs.declared.datum.Datum.TheVariants.{Word, Low, High, Object, Literal, Class}
use Rattle.dalvik_state.specs.declared.frame.Frame.{Frame}
use Rattle.dalvik_state.specs.declared.effect.Effect.{Effect}
use Rattle.dalvik_state.specs.declared.effect.Effect.TheVariants as effect

-- the number, 0 of a reference
abbrev pub number_in : Datum → ℕ
number_in (Word n) = n
number_in (Low n) = n
number_in (High n) = n
number_in d = 0

abbrev pub is_null_in : Datum → Bool
is_null_in (Word n) = nat_eq n 0
is_null_in d = false

-- what an item is before it is written, wide or not
abbrev pub zero_in : Bool → Datum
zero_in true = Low 0
zero_in false = Word 0

-- whether two values are the same word, half of a wide or reference
abbrev pub same_in : Datum → Datum → Bool
same_in (Word a) (Word b) = nat_eq a b
same_in (Low a) (Low b) = nat_eq a b
same_in (High a) (High b) = nat_eq a b
same_in (Object a) (Object b) = nat_eq a b
same_in (Literal a) (Literal b) = nat_eq a b
same_in (Class a) (Class b) = nat_eq a b
same_in a b = false

-- what a register holds
abbrev pub cell : List Datum → ℕ → Datum
cell cells r = slice_index_or cells r (Word 0)

-- a wide in two halves
abbrev pub with_wide : List Datum → ℕ → ℕ → List Datum
with_wide cells r n = slice_set (slice_set cells r (Low n)) (r + 1) (High n)

-- what one place held, in a register
abbrev pub with_slot : Slot → List Datum → ℕ → Datum → List Datum
with_slot slot.Wide cells r d = with_wide cells r (number_in d)
with_slot s cells r d = slice_set cells r d

abbrev pub with_item : Item → List Datum → ℕ → Datum → List Datum
with_item item.Wide cells r d = with_wide cells r (number_in d)
with_item i cells r d = slice_set cells r d

-- what is stored of a value in an item of an array or in a field
abbrev pub stored_in : Item → Datum → Datum
stored_in item.Plain d = d
stored_in item.Wide d = d
stored_in item.Object d = d
stored_in item.Boolean d = Word (number_in d % 2 ^ 32 % 2 ^ 8)
stored_in item.Byte d = Word (low_signed w8 8 (number_in d % 2 ^ 32))
stored_in item.Char d = Word (number_in d % 2 ^ 32 % 2 ^ 16)
stored_in item.Short d = Word (low_signed w16 16 (number_in d % 2 ^ 32))

-- the bits of an item, as an array is filled with them
abbrev pub filled_in : Item → ℕ → Datum
filled_in item.Wide n = Low n
filled_in i n = stored_in i (Word (n % 2 ^ 32))

-- the first items are filled, and the others stay
abbrev pub fill_in : Item → List ℕ → List Datum → List Datum
fill_in i [] ds = ds
fill_in i (n ∷ ns) [] = []
fill_in i (n ∷ ns) (d ∷ ds) = filled_in i n ∷ fill_in i ns ds

-- a frame is of the same code as it was
pub record IsSameCode (old new : Frame) : Type 0 where
  pub at : new.at ≡ old.at
  pub method : new.method ≡ old.method
  pub body : new.body ≡ old.body

-- the registers are these, and all else stays
pub record IsWritten (old new : Frame) (cells : List Datum) : Type 0 where
  pub registers : new.registers.items ≡ cells
  pub position : new.position ≡ old.position
  pub result : new.result ≡ old.result
  pub caught : new.caught ≡ old.caught
  pub code : IsSameCode old new

-- the position is this, and all else stays
pub record IsMoved (old new : Frame) (at : ℕ) : Type 0 where
  pub registers : new.registers.items ≡ old.registers.items
  pub position : new.position ≡ at
  pub result : new.result ≡ old.result
  pub caught : new.caught ≡ old.caught
  pub code : IsSameCode old new

-- nothing has changed
abbrev pub IsSame : Frame → Frame → Type 0
IsSame old new = IsMoved old new old.position

abbrev pub kept_by : Effect → Frame → Frame → Type 0
kept_by effect.Goes old new = Unit {0}
kept_by e old new = IsSame old new

-- an instruction that doesn't go on in its frame leaves it as it was: one that throws writes no register
pub record Leaves (e : Effect) (old new : Frame) : Type 0 where
  pub kept : kept_by e old new

-- the frame goes on at the next position with these registers, and all else stays
pub record GoesOn (old new : Frame) (cells : List Datum) : Type 0 where
  pub code : IsSameCode old new
  pub registers : new.registers.items ≡ cells
  pub position : old.position < 2 ^ 63 → new.position ≡ old.position + 1
  pub result : new.result ≡ old.result
  pub caught : new.caught ≡ old.caught

-- the frame goes on at a handler with what was caught, and all else stays
pub record Handles (old new : Frame) (at : ℕ) (thrown : Datum) : Type 0 where
  pub code : IsSameCode old new
  pub registers : new.registers.items ≡ old.registers.items
  pub position : new.position ≡ at
  pub result : new.result ≡ old.result
  pub caught : new.caught ≡ thrown
