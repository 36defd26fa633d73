-- What an instruction does to its frame, before the stack and the framework are looked at.
use Rattle.std.specs.Prelude.{ℕ, ◌+◌, true, false, List, [], Option, slice_set, slice_index_or}
use Rattle.insn_set.specs.declared.ops.InvokeKind.{InvokeKind}
use Rattle.insn_set.specs.declared.ops.Item.{Item}
use Rattle.insn_set.specs.declared.ops.Item.TheVariants as item
use Rattle.insn_set.specs.declared.ops.Slot.{Slot}
use Rattle.insn_set.specs.declared.ops.Slot.TheVariants as slot
use Rattle.dalvik_defs.specs.Names.{Text}
use Rattle.dalvik_defs.specs.State.{World, Value, Word, Low, High, Frame, word_of, is_null}
use Rattle.dalvik_defs.specs.Known.{null_pointer}
use Rattle.dalvik_defs.specs.declared.names.MethodKey.{MethodKey}
use Rattle.dalvik_defs.specs.declared.names.FieldKey.{FieldKey}

pub data Effect : Type 0 where
  -- goes on in the frame
  Goes : (world : World) (frame : Frame) → Effect
  -- throws a new object of a class, or an object that there is
  Faults : (class : Text) → Effect
  Throws : (thrown : Value) → Effect
  -- ends the frame
  Gives : (value : Option Value) → Effect
  Calls : (kind : InvokeKind) (method : MethodKey) (values : List Value) → Effect
  -- makes an object, or reads or writes a field
  Makes : (to : ℕ) (class : Text) → Effect
  Reads : (item : Item) (to : ℕ) (field : FieldKey) (on : Option Value) → Effect
  Writes : (field : FieldKey) (on : Option Value) (value : Value) → Effect
  Locks : (on : Value) → Effect
  Unlocks : (on : Value) → Effect
  -- there is no step
  Stuck : Effect

-- ---- registers

abbrev pub register : Frame → ℕ → Value
register f r = slice_index_or f.registers r (Word 0)

abbrev pub write : Frame → ℕ → Value → Frame
write f r v = record f { registers = slice_set f.registers r v }

-- a wide is written in two halves
abbrev pub write_wide : Frame → ℕ → ℕ → Frame
write_wide f r n = write (write f r (Low n)) (r + 1) (High n)

-- a value where one place holds a whole wide
abbrev pub write_slot : Slot → Frame → ℕ → Value → Frame
write_slot slot.Word f r v = write f r v
write_slot slot.Object f r v = write f r v
write_slot slot.Wide f r v = write_wide f r (word_of v)

abbrev pub write_item : Item → Frame → ℕ → Value → Frame
write_item item.Wide f to v = write_wide f to (word_of v)
write_item i f to v = write f to v

abbrev pub next : Frame → Frame
next f = record f { position = f.position + 1 }

abbrev pub go : Frame → ℕ → Frame
go f target = record f { position = target }

-- goes on with a register written
abbrev pub sets : World → Frame → ℕ → Value → Effect
sets w f to v = Goes w (next (write f to v))

abbrev pub sets_wide : World → Frame → ℕ → ℕ → Effect
sets_wide w f to n = Goes w (next (write_wide f to n))

abbrev pub unless_null : Value → Effect → Effect
unless_null v e = elim (is_null v) [ true ↦ Faults null_pointer | false ↦ e ]
