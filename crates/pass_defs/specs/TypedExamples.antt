-- Small programs for the examples of `typed_examples.rt`, in which LA; has a method m: in each pair one m is typed and the
-- other isn't.
use Rattle.std.specs.Prelude.{◌≡◌, ℕ, pos, Bool, true, List, [], ◌∷◌, Option, Some, codes}
use Rattle.insn_set.specs.declared.ops.Slot.TheVariants as slot
use Rattle.insn_set.specs.declared.ops.Item.TheVariants as item
use Rattle.program_model.specs.declared.program.Version.TheVariants.{V035}
use Rattle.dalvik_defs.specs.Names.{Text}
use Rattle.dalvik_defs.specs.Examples.{b_type, i_type, code, method, class, program, with_m}
use Rattle.dalvik_defs.specs.declared.encoded.NamedValue.{NamedValue}
use Rattle.dalvik_defs.specs.declared.names.Signature.{Signature}
use Rattle.dalvik_defs.specs.declared.names.FieldKey.{FieldKey}
use Rattle.dalvik_defs.specs.declared.forms.Form.{Form}
use Rattle.dalvik_defs.specs.declared.forms.Form.TheVariants as form
use Rattle.dalvik_defs.specs.declared.program.NamedBody.{NamedBody}
use Rattle.dalvik_defs.specs.declared.program.NamedClass.{NamedClass}
use Rattle.dalvik_defs.specs.declared.program.NamedMethod.{NamedMethod}
use Rattle.dalvik_defs.specs.declared.program.NamedProgram.{NamedProgram}
use Rattle.pass_defs.specs.Kinds.{Kind}
use Rattle.pass_defs.specs.Typed.{Table, IsTyping, IsFlow, is_ill_at}
use Rattle.pass_defs.specs.Examples.{x_of, field_x, kinds, flow_of}

abbrev pub with_code : Signature → NamedBody → List NamedClass → NamedProgram
with_code signature body others = program V035 (with_m signature body ∷ others)

abbrev pub m_with : Signature → NamedBody → NamedMethod
m_with signature body = method (codes "m") signature 9 (Some body)

-- the kinds of registers, position by position
abbrev pub tabled : List (List Kind) → Table
tabled [] = []
tabled (ks ∷ kss) = Some (kinds ks) ∷ tabled kss

abbrev pub IsTypedBy : Signature → NamedBody → List NamedClass → List (List Kind) → Type 0
IsTypedBy signature body others kss = IsTyping (with_code signature body others) (with_m signature body) (m_with signature body) body (tabled kss)

-- the least flow is ill typed at a position and a register
abbrev pub is_ill : Signature → NamedBody → List NamedClass → ℕ → ℕ → Bool
is_ill signature body others n r =
    let p : NamedProgram = with_code signature body others in
    let c : NamedClass = with_m signature body in
    let m : NamedMethod = m_with signature body in
    is_ill_at p c m body (flow_of p c m body) n r

-- every flow is ill typed there
abbrev pub IsAlwaysIll : Signature → NamedBody → List NamedClass → ℕ → ℕ → Type 0
IsAlwaysIll signature body others n r =
    let p : NamedProgram = with_code signature body others in
    let c : NamedClass = with_m signature body in
    let m : NamedMethod = m_with signature body in
    (t : Table) → IsFlow p c m body t → is_ill_at p c m body t n r ≡ true

-- ---- receivers

-- LI; is an interface whose field x isn't static
abbrev pub interface_with_x : NamedClass
interface_with_x = class i_type 1537 [] (field_x 1 ∷ []) []

-- what has the field
abbrev pub a_text : Form
a_text = form.ConstString 0 (codes "t")

abbrev pub a_null : Form
a_null = form.Const 0 (pos 0)

-- the field x that a type names is read
abbrev pub gets_x : Form → Text → NamedBody
gets_x holder named = code 1 0 (holder ∷ form.InstanceGet item.Plain 0 0 (x_of named) ∷ form.Return slot.Word 0 ∷ [])

-- 5 is put into it
abbrev pub puts_x : Form → Text → NamedBody
puts_x holder named = code 2 0 (holder ∷ form.Const 1 (pos 5) ∷ form.InstancePut item.Plain 1 0 (x_of named) ∷ form.Return slot.Word 1 ∷ [])

-- ---- first values

abbrev pub s_of : Text → FieldKey
s_of kind = record { class = b_type; name = codes "s"; kind = kind }

-- LB; has a static field s with a first value
abbrev pub b_with : Text → Option NamedValue → NamedClass
b_with kind first = class b_type 1 [] (record { name = codes "s"; kind = kind; flags = 9; first = first; marks = [] } ∷ []) []

abbrev pub reads_s : Text → NamedBody
reads_s kind = code 1 0 (form.StaticGet item.Object 0 (s_of kind) ∷ form.ReturnVoid ∷ [])

abbrev pub puts_s : Text → NamedBody
puts_s kind = code 1 0 (a_null ∷ form.StaticPut item.Object 0 (s_of kind) ∷ form.ReturnVoid ∷ [])

-- ---- tables

-- a new array of a type is filled with one item of so many bytes
abbrev pub fills : Text → ℕ → NamedBody
fills kind width = code 1 0 (form.Const 0 (pos 1) ∷ form.NewArray 0 0 kind ∷ form.FillArray 0 width (7 ∷ []) ∷ form.ReturnVoid ∷ [])
