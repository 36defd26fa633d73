-- Small programs for the examples of `form_examples.rt`.
use Rattle.std.specs.Prelude.{ℕ, ℤ, pos, negsuc, List, [], ◌∷◌, Some, None, codes}
use Rattle.insn_set.specs.declared.ops.Slot.TheVariants as slot
use Rattle.insn_set.specs.declared.ops.Item.{Item}
use Rattle.insn_set.specs.declared.ops.Item.TheVariants as item
use Rattle.insn_set.specs.declared.ops.CmpOp.TheVariants as cmp
use Rattle.insn_set.specs.declared.ops.BinaryOp.TheVariants as binary
use Rattle.insn_set.specs.declared.ops.UnaryOp.{UnaryOp}
use Rattle.insn_set.specs.declared.ops.UnaryOp.TheVariants as unary
use Rattle.program_model.specs.declared.program.Version.TheVariants.{V035}
use Rattle.dalvik_defs.specs.Names.{Text, no_parameters}
use Rattle.dalvik_defs.specs.Known.{null_pointer, arithmetic_exception}
use Rattle.dalvik_defs.specs.Examples.{a_type, int_type, to_int, code, method, class, program, one_class, trace, enter_m}
use Rattle.dalvik_defs.specs.declared.names.FieldKey.{FieldKey}
use Rattle.dalvik_defs.specs.declared.names.Signature.{Signature}
use Rattle.dalvik_defs.specs.declared.forms.Form.{Form}
use Rattle.dalvik_defs.specs.declared.forms.Form.TheVariants as form
use Rattle.dalvik_defs.specs.declared.program.NamedProgram.{NamedProgram}
use Rattle.dalvik_defs.specs.declared.events.Event.{Event}
use Rattle.dalvik_defs.specs.declared.script.Move.{Move}

-- what m shows in 10 steps that has so many registers and these forms, and takes nothing
abbrev pub shown_by : ℕ → List Form → List Event
shown_by registers forms = trace (one_class to_int (code registers 0 forms)) to_int (enter_m (codes "()I") [] ∷ []) 10

-- ---- numbers

abbrev pub compares_longs : ℤ → ℤ → List Form
compares_longs a b = form.ConstWide 0 a ∷ form.ConstWide 2 b ∷ form.Cmp cmp.CmpLong 4 0 2 ∷ form.Return slot.Word 4 ∷ []

abbrev pub shifts_right : ℤ → ℤ → List Form
shifts_right a k = form.Const 0 a ∷ form.Const 1 k ∷ form.Binary binary.ShrInt 0 0 1 ∷ form.Return slot.Word 0 ∷ []

abbrev pub converts : UnaryOp → ℤ → List Form
converts op a = form.Const 0 a ∷ form.Unary op 0 0 ∷ form.Return slot.Word 0 ∷ []

abbrev pub to_long : Signature
to_long = no_parameters (codes "J")

abbrev pub lengthens : NamedProgram
lengthens = one_class to_long (code 2 0 (form.Const 0 (negsuc 0) ∷ form.Unary unary.IntToLong 0 0 ∷ form.Return slot.Wide 0 ∷ []))

-- puts a number into a static field of a small type and reads it again
abbrev pub stores_small : Item → Text → ℤ → NamedProgram
stores_small i kind a = let k : FieldKey = record { class = a_type; name = codes "x"; kind = kind } in program V035
    (class a_type 1 []
    (record { name = codes "x"; kind = kind; flags = 9; first = None; marks = [] } ∷ [])
    (method (codes "m") to_int 9 (Some (code 1 0 (form.Const 0 a ∷ form.StaticPut i 0 k ∷ form.Const 0 (pos 0) ∷ form.StaticGet i 0 k ∷ form.Return slot.Word 0 ∷ []))) ∷ [])
    ∷ [])

abbrev pub stored_small : Item → Text → ℤ → List Event
stored_small i kind a = trace (stores_small i kind a) to_int (enter_m (codes "()I") [] ∷ []) 8

-- ---- switches and handlers

-- -1 and 100 have targets of their own
abbrev pub switches_by : ℤ → List Form
switches_by a =
    form.Const 0 a
    ∷ form.SparseSwitch 0 (negsuc 0 ∷ pos 100 ∷ []) (4 ∷ 6 ∷ [])
    ∷ form.Const 0 (pos 1)
    ∷ form.Return slot.Word 0
    ∷ form.Const 0 (pos 2)
    ∷ form.Return slot.Word 0
    ∷ form.Const 0 (pos 3)
    ∷ form.Return slot.Word 0
    ∷ []

-- divides by 0 where one handler is for another type and one for a type above the object's
abbrev pub catches_by_type : NamedProgram
catches_by_type = one_class to_int (record {
  registers = 2;
  ins = 0;
  forms = form.Const 0 (pos 0)
      ∷ form.Binary binary.DivInt 1 0 0
      ∷ form.Return slot.Word 1
      ∷ form.Const 0 (pos 1)
      ∷ form.Return slot.Word 0
      ∷ form.MoveException 0
      ∷ form.InstanceOf 0 0 arithmetic_exception
      ∷ form.Return slot.Word 0
      ∷ [];
  regions = record {
    first = 1;
    end = 2;
    handlers = record { kind = null_pointer; position = 3 } ∷ record { kind = codes "Ljava/lang/Exception;"; position = 5 } ∷ [];
    rest = Some 3;
  } ∷ [];
})

-- ---- arrays

-- the second byte of an array that is filled with 1 and 200
abbrev pub fills_bytes : List Form
fills_bytes =
    form.Const 0 (pos 2)
    ∷ form.NewArray 0 0 (codes "[B")
    ∷ form.FillArray 0 1 (1 ∷ 200 ∷ [])
    ∷ form.Const 1 (pos 1)
    ∷ form.ArrayGet item.Byte 1 0 1
    ∷ form.Return slot.Word 1
    ∷ []

-- the second item of an array of 7 and 9
abbrev pub makes_filled : List Form
makes_filled =
    form.Const 0 (pos 7)
    ∷ form.Const 1 (pos 9)
    ∷ form.FilledNewArray (codes "[I") (0 ∷ 1 ∷ [])
    ∷ form.MoveResult slot.Object 0
    ∷ form.Const 1 (pos 1)
    ∷ form.ArrayGet item.Plain 1 0 1
    ∷ form.Return slot.Word 1
    ∷ []
