-- Small programs for the examples of `examples.rt`, in which LA; has a method m.
use Rattle.std.specs.Prelude.{pos, [], ◌∷◌, Some, codes}
use Rattle.insn_set.specs.declared.ops.Slot.TheVariants as slot
use Rattle.insn_set.specs.declared.ops.Item.TheVariants as item
use Rattle.dalvik_defs.specs.Names.{Text, object_type, void}
use Rattle.dalvik_defs.specs.Examples.{c_type, i_type, code, class, enter_m, keeps_m}
use Rattle.dalvik_defs.specs.Happens.{Setting}
use Rattle.dalvik_defs.specs.State.{State, opening}
use Rattle.dalvik_defs.specs.Step.{setting_of}
use Rattle.dalvik_defs.specs.declared.encoded.NamedValue.TheVariants as value
use Rattle.dalvik_defs.specs.declared.forms.Form.TheVariants as form
use Rattle.dalvik_defs.specs.declared.program.NamedBody.{NamedBody}
use Rattle.dalvik_defs.specs.declared.program.NamedProgram.{NamedProgram}
use Rattle.pass_defs.specs.Kinds.{Undefined, Zero, Word, Class, Array, Reference}
use Rattle.pass_defs.specs.Typed.{Table}
use Rattle.pass_defs.specs.Examples.{field_x, kinds, x_of}
use Rattle.pass_defs.specs.TypedExamples.{b_with, reads_s, with_code}

-- ---- a regular program

-- LB; has a static field that begins with a text, which m of LA; reads; LI; is an interface
abbrev pub reads_text : NamedProgram
reads_text = with_code void (reads_s object_type) (b_with object_type (Some (value.Str (codes "t"))) ∷ class i_type 1537 [] [] [] ∷ [])

-- ---- an interface below a class

abbrev pub i_array : Text
i_array = codes "[LI;"

abbrev pub c_array : Text
c_array = codes "[LC;"

-- a text stands in an array of LI;, which is cast to one of LC;, and the field x of its item is read
abbrev pub casts_up : NamedBody
casts_up = code 2 0
    (form.ConstString 0 (codes "t")
    ∷ form.FilledNewArray i_array (0 ∷ [])
    ∷ form.MoveResult slot.Object 0
    ∷ form.CheckCast 0 c_array
    ∷ form.Const 1 (pos 0)
    ∷ form.ArrayGet item.Object 0 0 1
    ∷ form.InstanceGet item.Plain 0 0 (x_of c_type)
    ∷ form.ReturnVoid
    ∷ [])

-- LC; has the field, and the superclass of the interface LI; is LC;
abbrev pub interface_below : NamedProgram
interface_below = with_code void casts_up (class c_type 1 [] (field_x 1 ∷ []) [] ∷ record (class i_type 1537 [] [] []) { superclass = c_type } ∷ [])

abbrev pub casts_up_table : Table
casts_up_table =
    Some (kinds (Undefined ∷ Undefined ∷ []))
    ∷ Some (kinds (Reference ∷ Undefined ∷ []))
    ∷ Some (record (kinds (Reference ∷ Undefined ∷ [])) { result = Array i_array })
    ∷ Some (kinds (Array i_array ∷ Undefined ∷ []))
    ∷ Some (kinds (Array c_array ∷ Undefined ∷ []))
    ∷ Some (kinds (Array c_array ∷ Zero ∷ []))
    ∷ Some (kinds (Class c_type ∷ Zero ∷ []))
    ∷ Some (kinds (Word ∷ Zero ∷ []))
    ∷ []

abbrev pub enters_m : State
enters_m = opening (enter_m (codes "()V") [] ∷ [])

-- no framework types and no float table
abbrev pub alone : NamedProgram → Setting
alone p = setting_of p (keeps_m void) (record { rows = [] }) (record { rows = [] })
