-- What each form does in one frame (Dalvik bytecode, "Summary of bytecode set"). Reads come before writes, and a form
-- that throws writes no register. `under` says which types are above which, `floats` what float arithmetic answers.
use Rattle.std.specs.Prelude.{Bool, map, Some, None}
use Rattle.std.specs.Int.{w64, cast_unsigned}
use Rattle.dalvik_defs.specs.Names.{Text}
use Rattle.dalvik_defs.specs.Arith.{signed, passes}
use Rattle.dalvik_defs.specs.Operators.{sort_of, unary_answer, comparison}
use Rattle.dalvik_defs.specs.Items.{stored}
use Rattle.dalvik_defs.specs.State.{World, Word, Literal, Class, Frame, thing_at}
use Rattle.dalvik_defs.specs.Effect.{Effect, Goes, Throws, Gives, Calls, Makes, Reads, Writes, Locks, register, write_slot, next, go, sets, sets_wide, unless_null}
use Rattle.dalvik_defs.specs.ActPlain.{move_slot, word_constant, exits, is_instance, casts, truth, branch, goes_to, switch_target, packed_target}
use Rattle.dalvik_defs.specs.ActArray.{measures, new_array, filled_array, fills, array_get, array_put}
use Rattle.dalvik_defs.specs.ActNumber.{number, binary, literal, sets_number}
use Rattle.dalvik_defs.specs.declared.forms.Form.{Form}
use Rattle.dalvik_defs.specs.declared.forms.Form.TheVariants as form
use Rattle.dalvik_defs.specs.declared.tables.Floats.{Floats}
use Rattle.std.specs.Prelude.{false}

abbrev pub act : (Text → Text → Bool) → Floats → Form → World → Frame → Effect
act under floats form.Nop w f = Goes w (next f)
act under floats (form.Move slot to from) w f = Goes w (next (move_slot slot f to from))
act under floats (form.MoveResult slot to) w f = Goes w (next (write_slot slot f to f.result))
act under floats (form.MoveException to) w f = sets w f to f.caught
act under floats form.ReturnVoid w f = Gives None
act under floats (form.Return slot from) w f = Gives (Some (register f from))
act under floats (form.Const to value) w f = sets w f to (word_constant value)
act under floats (form.ConstWide to value) w f = sets_wide w f to (cast_unsigned w64 value)
act under floats (form.ConstString to text) w f = sets w f to (Literal text)
act under floats (form.ConstClass to kind) w f = sets w f to (Class kind)
act under floats (form.MonitorEnter on) w f = unless_null (register f on) (Locks (register f on))
act under floats (form.MonitorExit on) w f = unless_null (register f on) (exits w (register f on))
act under floats (form.CheckCast on kind) w f = casts under w f on kind
act under floats (form.InstanceOf to from kind) w f = sets w f to (truth (is_instance under w (register f from) kind))
act under floats (form.ArrayLength to from) w f = unless_null (register f from) (measures (thing_at w (register f from)) w f to)
act under floats (form.NewInstance to kind) w f = Makes to kind
act under floats (form.NewArray to size kind) w f = new_array (signed false (number f size)) kind w f to
act under floats (form.FilledNewArray kind args) w f = filled_array kind args w f
act under floats (form.FillArray on width items) w f = unless_null (register f on) (fills (thing_at w (register f on)) w f (register f on) items)
act under floats (form.Throw on) w f = unless_null (register f on) (Throws (register f on))
act under floats (form.Goto target) w f = Goes w (go f target)
act under floats (form.PackedSwitch on first targets) w f = goes_to (packed_target (number f on) first targets) w f
act under floats (form.SparseSwitch on keys targets) w f = goes_to (switch_target (signed false (number f on)) keys targets) w f
act under floats (form.Cmp op to a b) w f = sets w f to (Word (comparison floats op (number f a) (number f b)))
act under floats (form.If test a b target) w f = branch (passes test (register f a) (register f b)) w f target
act under floats (form.IfZero test a target) w f = branch (passes test (register f a) (Word 0)) w f target
act under floats (form.ArrayGet item to array index) w f =
    unless_null (register f array) (array_get item (thing_at w (register f array)) w f to (signed false (number f index)))
act under floats (form.ArrayPut item from array index) w f =
    unless_null (register f array) (array_put under item (thing_at w (register f array)) w f (register f from) (register f array) (signed false (number f index)))
act under floats (form.InstanceGet item to on field) w f = unless_null (register f on) (Reads item to field (Some (register f on)))
act under floats (form.InstancePut item from on field) w f = unless_null (register f on) (Writes field (Some (register f on)) (stored item (register f from)))
act under floats (form.StaticGet item to field) w f = Reads item to field None
act under floats (form.StaticPut item from field) w f = Writes field None (stored item (register f from))
act under floats (form.Invoke kind method args) w f = Calls kind method (map (register f) args)
act under floats (form.Unary op to from) w f = sets_number (unary_answer floats op (number f from)) w f to
act under floats (form.Binary op to a b) w f = binary floats (sort_of op) w f to a b
act under floats (form.Literal op to a value) w f = literal op w f to a value
