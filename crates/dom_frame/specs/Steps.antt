-- What a form leaves in the registers, form by form (Dalvik bytecode, "Summary of bytecode set"): none where nothing goes on.
use Rattle.std.specs.Prelude.{ℕ, ℤ, pos, negsuc, Bool, true, false, if◌then◌else◌, List, [], ◌∷◌, length, take, Option, Some, None, slice_get, option_and_then}
use Rattle.std.specs.Int.{w32, w64, cast_unsigned}
use Rattle.std.specs.Option.{option_map}
use Rattle.insn_set.specs.declared.ops.Slot.{Slot}
use Rattle.insn_set.specs.declared.ops.Item.{Item}
use Rattle.insn_set.specs.declared.ops.InvokeKind.{InvokeKind}
use Rattle.insn_set.specs.declared.ops.InvokeKind.TheVariants as call
use Rattle.insn_set.specs.declared.ops.CmpOp.{CmpOp}
use Rattle.insn_set.specs.declared.ops.UnaryOp.{UnaryOp}
use Rattle.insn_set.specs.declared.ops.BinaryOp.{BinaryOp}
use Rattle.insn_set.specs.declared.ops.LiteralOp.{LiteralOp}
use Rattle.insn_set.specs.declared.form.Insn.{Insn}
use Rattle.insn_set.specs.declared.form.Insn.TheVariants as insn
use Rattle.insn_set.specs.Widths.{is_wide_slot, is_wide_item, unary_writes_wide, binary_is_wide}
use Rattle.program_model.specs.declared.program.Program.{Program}
use Rattle.program_model.specs.Lookups.{class_place}
use Rattle.domains.specs.Ranges.{words_between}
use Rattle.domains.specs.Values.{Parts, any_value, constant_value, wide_value}
use Rattle.value_ops.specs.Left.{goes_on, held_value, any_object, of_class, words_of}
use Rattle.value_ops.specs.Numbers.{binary_value, literal_value, unary_value, compared_value}
use Rattle.value_ops.specs.Tests.{tested_values, keyed_value, unkeyed_value, unpacked_value, key_at}
use Rattle.dom_frame.specs.Registers.{Registers, value_at, put, put_wide, put_sized, moved, refined, refined_both, then_put}
use Rattle.dom_frame.specs.Classes.{cast_value}

abbrev pub truth : Parts
truth = words_of (words_between (pos 0) (pos 1))

abbrev pub array_length : Parts
array_length = words_of (words_between (pos 0) (pos 2147483647))

-- a register that was used as an object
abbrev pub used : ℕ → Registers → Option Registers
used r x = refined r (goes_on (held_value (value_at x r))) x

-- the first argument, on which a call that isn't static is made
abbrev pub receiver : List ℕ → ℕ
receiver [] = 0
receiver (r ∷ rs) = r

abbrev pub called : InvokeKind → List ℕ → Registers → Option Registers
called call.Static args x = Some x
called kind args x = used (receiver args) x

abbrev pub cast : Program → ℕ → ℕ → Registers → Option Registers
cast p on kind x = Some (put on (cast_value p kind (value_at x on)) x)

abbrev pub made : Program → ℕ → ℕ → Registers → Option Registers
made p to kind x = Some (put to (of_class (class_place p kind)) x)

abbrev pub compared : CmpOp → ℕ → ℕ → ℕ → Registers → Option Registers
compared op to a b x = Some (put to (compared_value op (value_at x a) (value_at x b)) x)

abbrev pub one_operand : UnaryOp → ℕ → ℕ → Registers → Option Registers
one_operand op to from x = Some (put_sized (unary_writes_wide op) to (unary_value op (value_at x from)) x)

abbrev pub two_operands : BinaryOp → ℕ → ℕ → ℕ → Registers → Option Registers
two_operands op to a b x = option_map (λ v. put_sized (binary_is_wide op) to v x) (binary_value op (value_at x a) (value_at x b))

abbrev pub with_literal : LiteralOp → ℕ → ℕ → ℤ → Registers → Option Registers
with_literal op to a value x = option_map (λ v. put to v x) (literal_value op (value_at x a) value)

-- ---- form by form, a few in each definition, which hands all others on to the next

abbrev pub after_end : Insn → Registers → Option Registers
after_end insn.ReturnVoid x = None
after_end (insn.Return slot from) x = None
after_end (insn.Throw on) x = None
after_end i x = Some x

abbrev pub after_number : Insn → Registers → Option Registers
after_number (insn.Cmp op to a b) x = compared op to a b x
after_number (insn.Unary op to from) x = one_operand op to from x
after_number (insn.Binary op to a b) x = two_operands op to a b x
after_number (insn.Literal op to a value) x = with_literal op to a value x
after_number i x = after_end i x

abbrev pub after_field : Insn → Parts → Registers → Option Registers
after_field (insn.InstanceGet item to on field) given x = then_put (is_wide_item item) to given (used on x)
after_field (insn.StaticGet item to field) given x = Some (put_sized (is_wide_item item) to given x)
after_field (insn.InstancePut item from on field) given x = used on x
after_field (insn.Invoke kind method args) given x = called kind args x
after_field i given x = after_number i x

abbrev pub after_array : Insn → Parts → Registers → Option Registers
after_array (insn.ArrayLength to from) given x = then_put false to array_length (used from x)
after_array (insn.ArrayGet item to array index) given x = then_put (is_wide_item item) to any_value (used array x)
after_array (insn.ArrayPut item from array index) given x = used array x
after_array (insn.FillArray on width items) given x = used on x
after_array i given x = after_field i given x

abbrev pub after_object : Program → Insn → Parts → Registers → Option Registers
after_object p (insn.MonitorEnter on) given x = used on x
after_object p (insn.MonitorExit on) given x = used on x
after_object p (insn.CheckCast on kind) given x = cast p on kind x
after_object p (insn.NewInstance to kind) given x = made p to kind x
after_object p (insn.NewArray to size kind) given x = made p to kind x
after_object p i given x = after_array i given x

abbrev pub after_constant : Program → Insn → Parts → Registers → Option Registers
after_constant p (insn.Const to value) given x = Some (put to (constant_value (cast_unsigned w32 value)) x)
after_constant p (insn.ConstWide to value) given x = Some (put_wide to (wide_value (cast_unsigned w64 value)) x)
after_constant p (insn.ConstString to string) given x = Some (put to any_object x)
after_constant p (insn.ConstClass to kind) given x = Some (put to any_object x)
after_constant p (insn.InstanceOf to from kind) given x = Some (put to truth x)
after_constant p i given x = after_object p i given x

-- The registers behind a form that goes on at the next position, or at its only target. `given` is what a MoveResult takes
-- or what a field holds. A branch leaves all as it is: what it says of its operands is told by `branched` and `switched`.
abbrev pub after : Program → Insn → Parts → Registers → Option Registers
after p (insn.Move slot to from) given x = Some (moved slot to from x)
after p (insn.MoveResult slot to) given x = Some (put_sized (is_wide_slot slot) to given x)
after p (insn.MoveException to) given x = Some (put to any_object x)
after p i given x = after_constant p i given x

-- ---- branches

-- where the test of a branch passes, and where it doesn't; other forms leave all as it is
abbrev pub branched : Bool → Insn → Registers → Option Registers
branched taken (insn.If test a b target) x = refined_both a b (tested_values taken test (value_at x a) (value_at x b)) x
branched taken (insn.IfZero test a target) x = refined a (option_map (λ v. v.0) (tested_values taken test (value_at x a) (constant_value 0))) x
branched taken i x = Some x

-- a switch that goes on at the next position, past all its keys
abbrev pub unswitched : Insn → Registers → Option Registers
unswitched (insn.PackedSwitch on first targets) x = refined on (unpacked_value first (length targets) (value_at x on)) x
unswitched (insn.SparseSwitch on keys targets) x = refined on (unkeyed_value (take (length targets) keys) (value_at x on)) x
unswitched i x = Some x

-- and one that goes to the target at a place, by the key there
abbrev pub at_key : ℕ → Option ℤ → Registers → Option Registers
at_key on (Some key) x = refined on (keyed_value key (value_at x on)) x
at_key on None x = None

abbrev pub switched : ℕ → Insn → Registers → Option Registers
switched place (insn.PackedSwitch on first targets) x = at_key on (Some (key_at first place)) x
switched place (insn.SparseSwitch on keys targets) x = at_key on (slice_get keys place) x
switched place i x = Some x
