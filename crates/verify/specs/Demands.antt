-- Which reads of a form aren't allowed, by numbers (Dalvik bytecode, "Summary of bytecode set").
use Rattle.std.specs.Prelude.{ℕ, Bool, true, false, ◌&&◌, ◌||◌, min, List, Option, Some, None, if◌then◌else◌}
use Rattle.insn_set.specs.declared.ops.Slot.{Slot}
use Rattle.insn_set.specs.declared.ops.Slot.TheVariants as slot
use Rattle.insn_set.specs.declared.ops.Item.{Item}
use Rattle.insn_set.specs.declared.ops.Item.TheVariants as item
use Rattle.insn_set.specs.declared.ops.Test.{Test}
use Rattle.insn_set.specs.declared.ops.Test.TheVariants as test
use Rattle.verify.specs.declared.kinds.Kind.{Kind}
use Rattle.verify.specs.declared.kinds.Kind.TheVariants as kind
use Rattle.verify.specs.Kinds.{same_kind, is_number, is_initialised, is_moved}
use Rattle.verify.specs.Frames.{kind_at, is_pair}

-- the register, unless its read is allowed
abbrev pub unless : Bool → ℕ → Option ℕ
unless true r = None
unless false r = Some r

abbrev pub lower_than : ℕ → Option ℕ → Option ℕ
lower_than r (Some s) = Some (min r s)
lower_than r None = Some r

-- the lower of two registers
abbrev pub lower : Option ℕ → Option ℕ → Option ℕ
lower (Some r) b = lower_than r b
lower None b = b

abbrev pub is_number_or_pair : Bool → List Kind → ℕ → Bool
is_number_or_pair wide ks r = if wide then is_pair ks r else is_number (kind_at ks r)

abbrev pub is_movable : Slot → List Kind → ℕ → Bool
is_movable slot.Wide ks r = is_pair ks r
is_movable s ks r = is_moved (kind_at ks r)

abbrev pub is_result : Slot → Kind → Bool
is_result slot.Word k = is_number k
is_result slot.Wide k = same_kind k kind.WideLow
is_result slot.Object k = is_initialised k

abbrev pub is_equality : Test → Bool
is_equality test.Eq = true
is_equality test.Ne = true
is_equality t = false

abbrev pub is_tested : Test → Kind → Bool
is_tested t k = is_number k || (is_equality t && is_initialised k)

-- the second operand is of the sort of the first, which may be both
abbrev pub is_like : Kind → Kind → Bool
is_like kind.Zero k = is_number k || is_initialised k
is_like kind.Word k = is_number k
is_like first k = is_initialised k

abbrev pub is_tested_with : Test → Kind → Kind → Bool
is_tested_with t first k = if is_equality t then is_like first k else is_number k

-- what is put into an array
abbrev pub is_item : Item → List Kind → ℕ → Bool
is_item item.Wide ks r = is_pair ks r
is_item item.Object ks r = is_initialised (kind_at ks r)
is_item i ks r = is_number (kind_at ks r)

abbrev pub is_any_array : Kind → Bool
is_any_array kind.Zero = true
is_any_array kind.Null = true
is_any_array (kind.Array n i) = true
is_any_array k = false

abbrev pub same_item : Item → Item → Bool
same_item item.Plain item.Plain = true
same_item item.Wide item.Wide = true
same_item item.Object item.Object = true
same_item item.Boolean item.Boolean = true
same_item item.Byte item.Byte = true
same_item item.Char item.Char = true
same_item item.Short item.Short = true
same_item a b = false
