-- A callee that the law admits: it hands back 5.
use Rattle.std.specs.Prelude.{ℕ, pos, List, [], ◌∷◌, Some, codes}
use Rattle.insn_set.specs.declared.ops.Slot.TheVariants as slot
use Rattle.dalvik_defs.specs.declared.names.Signature.{Signature}
use Rattle.dalvik_defs.specs.declared.names.MethodKey.{MethodKey}
use Rattle.dalvik_defs.specs.declared.forms.Form.{Form}
use Rattle.dalvik_defs.specs.declared.forms.Form.TheVariants as form
use Rattle.dalvik_defs.specs.declared.program.NamedBody.{NamedBody}
use Rattle.dalvik_defs.specs.declared.program.NamedMethod.{NamedMethod}
use Rattle.pass_defs.specs.Inlined.{Callee}

abbrev pub gives_int : Signature
gives_int = record { parameters = []; result = codes "I" }

abbrev pub callee_key : MethodKey
callee_key = record { class = codes "LA;"; name = codes "f"; signature = gives_int }

abbrev pub caller_key : MethodKey
caller_key = record { class = codes "LA;"; name = codes "m"; signature = gives_int }

abbrev pub five : Form
five = form.Const 0 (pos 5)

abbrev pub gives : Form
gives = form.Return slot.Word 0

abbrev pub body : NamedBody
body = record { registers = 1; ins = 0; forms = five ∷ gives ∷ []; regions = [] }

abbrev pub method : NamedMethod
method = record { name = codes "f"; signature = gives_int; flags = 8; marks = []; parameter_marks = []; body = Some body; lines = [] }

abbrev pub callee : Callee
callee = record { key = callee_key; method = method; body = body; args = [] }
