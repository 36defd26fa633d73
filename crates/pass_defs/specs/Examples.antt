-- Small programs for the examples of `examples.rt`, on the parts of the machine's examples.
use Rattle.std.specs.Prelude.{ℕ, zero, suc, pos, false, List, [], ◌∷◌, replicate, length, Option, Some, None, codes}
use Rattle.insn_set.specs.declared.ops.Slot.TheVariants as slot
use Rattle.insn_set.specs.declared.ops.Item.TheVariants as item
use Rattle.insn_set.specs.declared.ops.Test.TheVariants as test
use Rattle.insn_set.specs.declared.ops.BinaryOp.TheVariants as binary
use Rattle.insn_set.specs.declared.ops.LiteralOp.TheVariants as literal
use Rattle.insn_set.specs.declared.ops.InvokeKind.TheVariants as call
use Rattle.program_model.specs.declared.program.Version.TheVariants.{V035}
use Rattle.dalvik_defs.specs.Names.{Text, field_eq, object_type, void}
use Rattle.dalvik_defs.specs.Examples.{a_type, b_type, int_type, to_int, code, method, class, program, constructor, constructor_key, with_m, one_class}
use Rattle.dalvik_defs.specs.declared.names.Signature.{Signature}
use Rattle.dalvik_defs.specs.declared.names.FieldKey.{FieldKey}
use Rattle.dalvik_defs.specs.declared.forms.Form.{Form}
use Rattle.dalvik_defs.specs.declared.forms.Form.TheVariants as form
use Rattle.dalvik_defs.specs.declared.program.NamedBody.{NamedBody}
use Rattle.dalvik_defs.specs.declared.program.NamedField.{NamedField}
use Rattle.dalvik_defs.specs.declared.program.NamedMethod.{NamedMethod}
use Rattle.dalvik_defs.specs.declared.program.NamedClass.{NamedClass}
use Rattle.dalvik_defs.specs.declared.program.NamedProgram.{NamedProgram}
use Rattle.pass_defs.specs.Kinds.{Kind, Undefined, Word, Class, FreshThis, joined}
use Rattle.pass_defs.specs.Registers.{Kinds}
use Rattle.pass_defs.specs.Typed.{Table, state_at, begun, flows}
use Rattle.pass_defs.specs.Walks.{form_at}
use Rattle.pass_defs.specs.Live.{Conditions}
use Rattle.pass_defs.specs.Flat.{Flat, KnownWord, Any}

-- ---- two ways that meet

abbrev pub s_type : Text
s_type = codes "LS;"

abbrev pub x_of : Text → FieldKey
x_of t = record { class = t; name = codes "x"; kind = int_type }

abbrev pub field_x : ℕ → NamedField
field_x flags = record { name = codes "x"; kind = int_type; flags = flags; first = None; marks = [] }

abbrev pub under_s : Text → NamedClass
under_s t = record (class t 1 [] [] []) { superclass = s_type }

-- one of two parameters is copied, by a third one, and a field of it is read
abbrev pub meets_in : Text → Form → Form → NamedBody
meets_in holder one other = code 4 3
    (form.IfZero test.Eq 3 3
    ∷ one
    ∷ form.Goto 4
    ∷ other
    ∷ form.InstanceGet item.Plain 0 0 (x_of holder)
    ∷ form.Return slot.Word 0
    ∷ [])

abbrev pub copies_both : NamedBody
copies_both = meets_in s_type (form.Move slot.Object 0 1) (form.Move slot.Object 0 2)

abbrev pub copies_number : NamedBody
copies_number = meets_in s_type (form.Move slot.Object 0 1) (form.Move slot.Word 0 3)

abbrev pub takes_both : Signature
takes_both = record { parameters = a_type ∷ b_type ∷ int_type ∷ []; result = int_type }

abbrev pub n_method : NamedBody → NamedMethod
n_method body = method (codes "n") takes_both 9 (Some body)

abbrev pub n_class : NamedBody → NamedClass
n_class body = class (codes "LN;") 1 [] [] (n_method body ∷ [])

abbrev pub meeting : NamedBody → NamedProgram
meeting body = program V035 (class s_type 1 [] (field_x 1 ∷ []) [] ∷ under_s a_type ∷ under_s b_type ∷ n_class body ∷ [])

abbrev pub kinds : List Kind → Kinds
kinds ks = record { registers = ks; result = Undefined; caught = Undefined; receiver = Undefined }

-- the kinds with these in register 0
abbrev pub with_first : Kind → Option Kinds
with_first k = Some (kinds (k ∷ Class a_type ∷ Class b_type ∷ Word ∷ []))

abbrev pub both_typed : Table
both_typed = with_first Undefined ∷ with_first Undefined ∷ with_first (Class a_type) ∷ with_first Undefined ∷ with_first (Class s_type) ∷ with_first Word ∷ []

-- ---- conditional members

-- LA; has a kept method m that reads the static field y of LB;, which has a field x as well
abbrev pub y_of_b : FieldKey
y_of_b = record { class = b_type; name = codes "y"; kind = int_type }

abbrev pub reads_y : NamedBody
reads_y = code 1 0 (form.StaticGet item.Plain 0 y_of_b ∷ form.ReturnVoid ∷ [])

abbrev pub field_y : NamedField
field_y = record { name = codes "y"; kind = int_type; flags = 9; first = None; marks = [] }

abbrev pub names_b : NamedProgram
names_b = program V035 (with_m void reads_y ∷ class b_type 1 [] (field_x 9 ∷ field_y ∷ []) [] ∷ [])

-- `-keepclassmembers class B { int x; }`
abbrev pub keeps_x : Conditions
keeps_x = record { methods = λ k. false; fields = λ k. field_eq k (x_of b_type); classes = λ t owner. false }

-- ---- constants

abbrev pub sets_and_returns : NamedProgram
sets_and_returns = one_class void (code 1 0 (form.Const 0 (pos 5) ∷ form.ReturnVoid ∷ []))

abbrev pub adds : Form
adds = form.Binary binary.AddInt 2 0 1

-- ---- a flow, round by round

-- two states that meet; an unreached one gives way
abbrev pub joined_all : NamedProgram → List Kind → List Kind → List Kind
joined_all p [] ls = ls
joined_all p (k ∷ ks) [] = k ∷ ks
joined_all p (k ∷ ks) (l ∷ ls) = joined p k l ∷ joined_all p ks ls

abbrev pub joined_kinds : NamedProgram → Kinds → Option Kinds → Kinds
joined_kinds p a None = a
joined_kinds p a (Some b) = record {
  registers = joined_all p a.registers b.registers;
  result = joined p a.result b.result;
  caught = joined p a.caught b.caught;
  receiver = joined p a.receiver b.receiver;
}

-- a table with one more arrival
abbrev pub arrived : NamedProgram → Table → ℕ → Kinds → Table
arrived p [] n a = []
arrived p (s ∷ t) zero a = Some (joined_kinds p a s) ∷ t
arrived p (s ∷ t) (suc n) a = s ∷ arrived p t n a

abbrev pub all_arrived : NamedProgram → List (ℕ × Kinds) → Table → Table
all_arrived p [] t = t
all_arrived p (e ∷ es) t = all_arrived p es (arrived p t e.0 e.1)

abbrev pub flows_at : NamedProgram → NamedClass → NamedMethod → NamedBody → ℕ → Table → List (ℕ × Kinds)
flows_at p c m b n t = elim (form_at b n) [ Some f ↦ elim (state_at t n) [ Some a ↦ flows p c m b n f a | None ↦ [] ] | None ↦ [] ]

-- all that flows from the first n positions, in their order
abbrev pub swept : NamedProgram → NamedClass → NamedMethod → NamedBody → ℕ → Table → Table
swept p c m b zero t = t
swept p c m b (suc n) t = let u : Table = swept p c m b n t in all_arrived p (flows_at p c m b n u) u

-- What the entry and the edges of a body that only goes forwards give.
abbrev pub flow_of : NamedProgram → NamedClass → NamedMethod → NamedBody → Table
flow_of p c m b = swept p c m b (length b.forms) (arrived p (replicate (length b.forms) None) 0 (begun p c m b))

-- register 0 has 2 and register 1 has 3
abbrev pub two_and_three : ℕ → Flat
two_and_three zero = KnownWord 2
two_and_three (suc zero) = KnownWord 3
two_and_three n = Any

-- ---- inlining

-- LA;'s method q adds 2 to its argument
abbrev pub q_signature : Signature
q_signature = record { parameters = int_type ∷ []; result = int_type }

abbrev pub adds_two : NamedMethod
adds_two = method (codes "q") q_signature 9 (Some (code 2 1 (form.Literal literal.AddInt 0 1 (pos 2) ∷ form.Return slot.Word 0 ∷ [])))

-- and m calls it with 1
abbrev pub calls_q : NamedBody
calls_q = code 1 0
    (form.Const 0 (pos 1)
    ∷ form.Invoke call.Static (record { class = a_type; name = codes "q"; signature = q_signature }) (0 ∷ [])
    ∷ form.MoveResult slot.Word 0
    ∷ form.Return slot.Word 0
    ∷ [])

abbrev pub m_calls_q : NamedMethod
m_calls_q = method (codes "m") to_int 9 (Some calls_q)

abbrev pub calls_itself : NamedProgram
calls_itself = program V035 (class a_type 1 [] [] (m_calls_q ∷ adds_two ∷ []) ∷ [])

-- ---- constructors

abbrev pub with_constructor : NamedClass
with_constructor = class b_type 1 [] [] (constructor ∷ [])

-- a constructor of LB; that calls none
abbrev pub returns_only : NamedBody
returns_only = code 1 1 (form.ReturnVoid ∷ [])

abbrev pub calls_object : NamedBody
calls_object = code 1 1 (form.Invoke call.Direct (constructor_key object_type) (0 ∷ []) ∷ form.ReturnVoid ∷ [])

-- the receiver in its register and in its own place
abbrev pub with_receiver : Kind → Option Kinds
with_receiver k = Some (record { registers = k ∷ []; result = Undefined; caught = Undefined; receiver = k })

abbrev pub constructed_then : Table
constructed_then = with_receiver FreshThis ∷ with_receiver (Class b_type) ∷ []

abbrev pub constructs_b : NamedProgram
constructs_b = program V035 (with_constructor ∷ [])
