-- What an instruction does: moves, constants, monitors, branches (Dalvik bytecode, "Summary of bytecode set").
use Rattle.std.specs.Prelude.{ℕ, ◌+◌, ◌-◌, ◌%◌, ◌^◌, ℤ, Bool, true, false, ◌&&◌, not, List, [], ◌∷◌, Option, Some, None, nat_eq, slice_get, int_lt, ◌||◌}
use Rattle.std.specs.Int.{w32, cast_unsigned}
use Rattle.insn_set.specs.declared.ops.Slot.{Slot}
use Rattle.insn_set.specs.declared.ops.Slot.TheVariants as slot
use Rattle.dalvik_defs.specs.Names.{Text}
use Rattle.dalvik_defs.specs.Known.{bad_monitor, bad_cast}
use Rattle.dalvik_defs.specs.State.{World, Value, Word, Frame, is_null, kind_of}
use Rattle.dalvik_defs.specs.Effect.{Effect, Goes, Faults, Unlocks, register, write, next, go}

-- a move reads its registers before it writes
abbrev pub move_slot : Slot → Frame → ℕ → ℕ → Frame
move_slot slot.Word f to from = write f to (register f from)
move_slot slot.Object f to from = write f to (register f from)
move_slot slot.Wide f to from = write (write f to (register f from)) (to + 1) (register f (from + 1))

abbrev pub word_constant : ℤ → Value
word_constant z = Word (cast_unsigned w32 z)

abbrev pub exits : World → Value → Effect
exits w v = elim (nat_eq (w.locks v) 0) [ true ↦ Faults bad_monitor | false ↦ Unlocks v ]

-- not null, and of a class under the type
abbrev pub is_instance : (Text → Text → Bool) → World → Value → Text → Bool
is_instance under w v kind = not (is_null v) && under (kind_of w v) kind

abbrev pub casts : (Text → Text → Bool) → World → Frame → ℕ → Text → Effect
casts under w f on kind = elim (is_null (register f on) || is_instance under w (register f on) kind) [ true ↦ Goes w (next f) | false ↦ Faults bad_cast ]

abbrev pub truth : Bool → Value
truth true = Word 1
truth false = Word 0

abbrev pub branch : Bool → World → Frame → ℕ → Effect
branch true w f target = Goes w (go f target)
branch false w f target = Goes w (next f)

abbrev pub goes_to : Option ℕ → World → Frame → Effect
goes_to None w f = Goes w (next f)
goes_to (Some t) w f = Goes w (go f t)

-- the target of the key that is the number
abbrev pub switch_target : ℤ → List ℤ → List ℕ → Option ℕ
switch_target z [] ts = None
switch_target z (k ∷ ks) [] = None
switch_target z (k ∷ ks) (t ∷ ts) = elim (int_lt z k || int_lt k z) [ true ↦ switch_target z ks ts | false ↦ Some t ]

-- the target of the operand's distance from the first key, in 32 bits that wrap
abbrev pub packed_target : ℕ → ℤ → List ℕ → Option ℕ
packed_target n first ts = slice_get ts ((n + (2 ^ 32 - cast_unsigned w32 first)) % 2 ^ 32)
