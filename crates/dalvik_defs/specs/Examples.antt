-- Small programs for the examples of `examples.rt`.
use Rattle.std.specs.Prelude.{ℕ, pos, negsuc, true, false, List, [], ◌∷◌, Option, Some, None, codes}
use Rattle.insn_set.specs.declared.ops.Slot.TheVariants as slot
use Rattle.insn_set.specs.declared.ops.Item.TheVariants as item
use Rattle.insn_set.specs.declared.ops.InvokeKind.TheVariants as call
use Rattle.insn_set.specs.declared.ops.BinaryOp.TheVariants as binary
use Rattle.insn_set.specs.declared.ops.UnaryOp.TheVariants as unary
use Rattle.dalvik_defs.specs.declared.tables.FloatOp.TheVariants as floats
use Rattle.dalvik_defs.specs.declared.tables.Floats.{Floats}
use Rattle.dalvik_defs.specs.Names.{text_eq}
use Rattle.program_model.specs.declared.program.Version.{Version}
use Rattle.program_model.specs.declared.program.Version.TheVariants.{V035, V037}
use Rattle.dalvik_defs.specs.Names.{Text, method_eq, object_type, void, no_parameters}
use Rattle.dalvik_defs.specs.Outer.{Outer}
use Rattle.dalvik_defs.specs.Step.{shows}
use Rattle.dalvik_defs.specs.Silence.{silenced}
use Rattle.dalvik_defs.specs.declared.names.Signature.{Signature}
use Rattle.dalvik_defs.specs.declared.names.MethodKey.{MethodKey}
use Rattle.dalvik_defs.specs.declared.names.FieldKey.{FieldKey}
use Rattle.dalvik_defs.specs.declared.forms.Form.{Form}
use Rattle.dalvik_defs.specs.declared.forms.Form.TheVariants as form
use Rattle.dalvik_defs.specs.declared.program.NamedBody.{NamedBody}
use Rattle.dalvik_defs.specs.declared.program.NamedField.{NamedField}
use Rattle.dalvik_defs.specs.declared.program.NamedMethod.{NamedMethod}
use Rattle.dalvik_defs.specs.declared.program.NamedClass.{NamedClass}
use Rattle.dalvik_defs.specs.declared.program.NamedProgram.{NamedProgram}
use Rattle.dalvik_defs.specs.declared.script.Given.{Given}
use Rattle.dalvik_defs.specs.declared.script.Given.TheVariants as given
use Rattle.dalvik_defs.specs.declared.script.Move.{Move}
use Rattle.dalvik_defs.specs.declared.script.Move.TheVariants as move
use Rattle.dalvik_defs.specs.declared.events.Event.{Event}
use Rattle.dalvik_defs.specs.declared.events.Event.TheVariants as event

-- ---- parts

abbrev pub a_type : Text
a_type = codes "LA;"

abbrev pub b_type : Text
b_type = codes "LB;"

abbrev pub int_type : Text
int_type = codes "I"

abbrev pub to_int : Signature
to_int = no_parameters int_type

abbrev pub int_to_int : Signature
int_to_int = record { parameters = int_type ∷ []; result = int_type }

abbrev pub code : ℕ → ℕ → List Form → NamedBody
code registers ins forms = record { registers = registers; ins = ins; forms = forms; regions = [] }

abbrev pub method : Text → Signature → ℕ → Option NamedBody → NamedMethod
method name signature flags body = record { name = name; signature = signature; flags = flags; marks = []; parameter_marks = []; body = body; lines = [] }

abbrev pub class : Text → ℕ → List Text → List NamedField → List NamedMethod → NamedClass
class name flags interfaces fields methods = record {
  name = name;
  flags = flags;
  superclass = object_type;
  interfaces = interfaces;
  source = None;
  marks = [];
  fields = fields;
  methods = methods;
}

abbrev pub program : Version → List NamedClass → NamedProgram
program version classes = record { version = version; classes = classes }

abbrev pub keeps_nothing : Outer
keeps_nothing = record {
  classes = λ t. false;
  methods = λ k. false;
  constructed = λ t. false;
  keepers = λ n q. [];
  fields = λ k. false;
  silent = λ k. false;
  shut = λ k. false;
}

-- class LA; with its static method m, which the framework may enter
abbrev pub m_key : Signature → MethodKey
m_key signature = record { class = a_type; name = codes "m"; signature = signature }

abbrev pub with_m : Signature → NamedBody → NamedClass
with_m signature body = class a_type 1 [] [] (method (codes "m") signature 9 (Some body) ∷ [])

abbrev pub keeps_m : Signature → Outer
keeps_m signature = record (keeps_nothing) { methods = method_eq (m_key signature) }

abbrev pub enter_m : Text → List Given → Move
enter_m proto values = move.Enter a_type (codes "m") proto values

-- what a program shows in n steps, where the framework has no types of its own and no float table
abbrev pub trace : NamedProgram → Signature → List Move → ℕ → List Event
trace p signature script n = shows p (keeps_m signature) (record { rows = [] }) (record { rows = [] }) script n

-- a framework method without parameters and result
abbrev pub log_key : MethodKey
log_key = record { class = codes "LLog;"; name = codes "i"; signature = void }

abbrev pub logs : Form
logs = form.Invoke call.Static log_key []

abbrev pub throws_runtime : Move
throws_runtime = move.Throw (given.New (codes "Ljava/lang/RuntimeException;"))

abbrev pub logged : Event
logged = event.Call call.Static (codes "LLog;") (codes "i") (codes "()V") []

-- ---- programs

abbrev pub one_class : Signature → NamedBody → NamedProgram
one_class signature body = program V035 (with_m signature body ∷ [])

abbrev pub answers_two : NamedProgram
answers_two = one_class to_int (code 1 0 (form.Const 0 (pos 2) ∷ form.Return slot.Word 0 ∷ []))

-- divides 7 by 0
abbrev pub divides_by_zero : NamedProgram
divides_by_zero = one_class to_int (code 2 0 (form.Const 0 (pos 0) ∷ form.Const 1 (pos 7) ∷ form.Binary binary.DivInt 1 1 0 ∷ form.Return slot.Word 1 ∷ []))

-- divides the least value by -1
abbrev pub divides_least : NamedProgram
divides_least = one_class to_int (code 3 0 (form.Const 0 (negsuc 2147483647) ∷ form.Const 1 (negsuc 0) ∷ form.Binary binary.DivInt 2 0 1 ∷ form.Return slot.Word 2 ∷ []))

-- calls the framework under a catch-all
abbrev pub catches : NamedProgram
catches = one_class int_to_int (record {
  registers = 2;
  ins = 1;
  forms = form.Const 0 (pos 5) ∷ logs ∷ form.Return slot.Word 1 ∷ form.Return slot.Word 0 ∷ [];
  regions = record { first = 1; end = 2; handlers = []; rest = Some 3 } ∷ [];
})

-- puts 5 at place 1 of an array
abbrev pub takes_array : Signature
takes_array = record { parameters = codes "[I" ∷ []; result = codes "V" }

abbrev pub puts_item : NamedProgram
puts_item = one_class takes_array (code 3 1 (form.Const 0 (pos 1) ∷ form.Const 1 (pos 5) ∷ form.ArrayPut item.Plain 1 2 0 ∷ form.ReturnVoid ∷ []))

-- reads a static field of LB;, whose initialiser has this code
abbrev pub x_key : FieldKey
x_key = record { class = b_type; name = codes "x"; kind = int_type }

abbrev pub b_with_initialiser : NamedBody → NamedClass
b_with_initialiser body = class b_type 1 []
    (record { name = codes "x"; kind = int_type; flags = 9; first = None; marks = [] } ∷ [])
    (method (codes "<clinit>") void 65544 (Some body) ∷ [])

abbrev pub reads_field : NamedBody → NamedProgram
reads_field body = program V035 (with_m void (code 1 0 (form.StaticGet item.Plain 0 x_key ∷ form.ReturnVoid ∷ [])) ∷ b_with_initialiser body ∷ [])

abbrev pub initialiser_logs : NamedProgram
initialiser_logs = reads_field (code 0 0 (logs ∷ form.ReturnVoid ∷ []))

abbrev pub initialiser_fails : NamedProgram
initialiser_fails = reads_field (code 1 0 (form.Const 0 (pos 0) ∷ form.Throw 0 ∷ []))

-- makes an object of LB; and calls a method r of an interface on it
abbrev pub i_type : Text
i_type = codes "LI;"

abbrev pub j_type : Text
j_type = codes "LJ;"

abbrev pub r_key : Text → MethodKey
r_key type = record { class = type; name = codes "r"; signature = void }

abbrev pub log_code : ℕ → NamedBody
log_code registers = code registers registers (logs ∷ form.ReturnVoid ∷ [])

abbrev pub r_method : ℕ → Option NamedBody → NamedMethod
r_method flags body = method (codes "r") void flags body

abbrev pub constructor_key : Text → MethodKey
constructor_key type = record { class = type; name = codes "<init>"; signature = void }

abbrev pub constructor : NamedMethod
constructor = method (codes "<init>") void 65537 (Some (code 1 1 (form.Invoke call.Direct (constructor_key object_type) (0 ∷ []) ∷ form.ReturnVoid ∷ [])))

abbrev pub calls_r : NamedClass
calls_r = with_m void (code 1 0
    (form.NewInstance 0 b_type
    ∷ form.Invoke call.Direct (constructor_key b_type) (0 ∷ [])
    ∷ form.Invoke call.Interface (r_key i_type) (0 ∷ [])
    ∷ form.ReturnVoid
    ∷ []))

abbrev pub interface : Text → NamedMethod → NamedClass
interface name r = class name 1537 [] [] (r ∷ [])

-- r is LB;'s own
abbrev pub class_has_r : NamedProgram
class_has_r = program V035
    (calls_r ∷ interface i_type (r_method 1025 None) ∷ class b_type 1 (i_type ∷ []) [] (constructor ∷ r_method 1 (Some (log_code 1)) ∷ []) ∷ [])

-- r has code in the interface
abbrev pub interface_has_r : Version → NamedProgram
interface_has_r version = program version
    (calls_r ∷ interface i_type (r_method 1 (Some (log_code 1))) ∷ class b_type 1 (i_type ∷ []) [] (constructor ∷ []) ∷ [])

-- r has code in two interfaces
abbrev pub interfaces_clash : NamedProgram
interfaces_clash = program V037
    (calls_r
    ∷ interface i_type (r_method 1 (Some (log_code 1)))
    ∷ interface j_type (r_method 1 (Some (log_code 1)))
    ∷ class b_type 1 (i_type ∷ j_type ∷ []) [] (constructor ∷ [])
    ∷ [])

-- calls the framework alone
abbrev pub only_logs : NamedProgram
only_logs = one_class void (code 0 0 (logs ∷ form.ReturnVoid ∷ []))

abbrev pub log_is_silent : Outer
log_is_silent = record (keeps_m void) { silent = method_eq log_key }

abbrev pub without_logs : NamedProgram
without_logs = silenced only_logs log_is_silent (λ k. true)

-- adds 1 to a long
abbrev pub long_to_long : Signature
long_to_long = record { parameters = codes "J" ∷ []; result = codes "J" }

abbrev pub adds_long : NamedProgram
adds_long = one_class long_to_long (code 4 2 (form.ConstWide 0 (pos 1) ∷ form.Binary binary.AddLong 0 0 2 ∷ form.Return slot.Wide 0 ∷ []))

-- turns a float's sign
abbrev pub float_to_float : Signature
float_to_float = record { parameters = codes "F" ∷ []; result = codes "F" }

abbrev pub negates : NamedProgram
negates = one_class float_to_float (code 1 1 (form.Unary unary.NegFloat 0 0 ∷ form.Return slot.Word 0 ∷ []))

abbrev pub negates_one : Floats
negates_one = record { rows = record { op = floats.NegFloat; a = 1065353216; b = 0; result = 3212836864 } ∷ [] }

-- reads a field of the framework
abbrev pub y_key : FieldKey
y_key = record { class = codes "LLog;"; name = codes "y"; kind = int_type }

abbrev pub reads_framework : NamedProgram
reads_framework = one_class to_int (code 1 0 (form.StaticGet item.Plain 0 y_key ∷ form.Return slot.Word 0 ∷ []))

-- makes an object of LC; under LB;, whose initialiser fails
abbrev pub c_type : Text
c_type = codes "LC;"

abbrev pub superclass_fails : NamedProgram
superclass_fails = program V035
    (with_m void (code 1 0 (form.NewInstance 0 c_type ∷ form.ReturnVoid ∷ []))
    ∷ b_with_initialiser (code 1 0 (form.Const 0 (pos 0) ∷ form.Throw 0 ∷ []))
    ∷ record (class c_type 1 [] [] []) { superclass = b_type }
    ∷ [])

-- makes an object of LB;, whose interface has a method with code and an initialiser that logs
abbrev pub interface_starts : Version → NamedProgram
interface_starts version = program version
    (with_m void (code 1 0 (form.NewInstance 0 b_type ∷ form.ReturnVoid ∷ []))
    ∷ class i_type 1537 [] [] (method (codes "<clinit>") void 65544 (Some (code 0 0 (logs ∷ form.ReturnVoid ∷ []))) ∷ r_method 1 (Some (log_code 1)) ∷ [])
    ∷ class b_type 1 (i_type ∷ []) [] []
    ∷ [])

-- whether an array of arrays of int is one of objects
abbrev pub tests_array : NamedProgram
tests_array = one_class to_int (code 2 0
    (form.Const 0 (pos 2)
    ∷ form.NewArray 0 0 (codes "[[I")
    ∷ form.InstanceOf 1 0 (codes "[Ljava/lang/Object;")
    ∷ form.Return slot.Word 1
    ∷ []))

-- puts a text into an array of LA;
abbrev pub stores_badly : NamedProgram
stores_badly = one_class void (code 3 0
    (form.Const 0 (pos 1)
    ∷ form.NewArray 1 0 (codes "[LA;")
    ∷ form.Const 0 (pos 0)
    ∷ form.ConstString 2 (codes "x")
    ∷ form.ArrayPut item.Object 2 1 0
    ∷ form.ReturnVoid
    ∷ []))

-- leaves a monitor twice
abbrev pub leaves_twice : NamedProgram
leaves_twice = one_class void (code 1 0 (form.ConstClass 0 a_type ∷ form.MonitorEnter 0 ∷ form.MonitorExit 0 ∷ form.MonitorExit 0 ∷ form.ReturnVoid ∷ []))

-- a class under another type, with a virtual method that logs
abbrev pub called_back : Text → NamedProgram
called_back superclass = program V035 (record (class b_type 1 [] [] (r_method 1 (Some (log_code 1)) ∷ [])) { superclass = superclass } ∷ [])

abbrev pub keeps_b : Outer
keeps_b = record (keeps_nothing) { classes = text_eq b_type }

abbrev pub make_and_call : List Move
make_and_call = move.Make b_type ∷ move.Enter b_type (codes "r") (codes "()V") (given.Exposed 0 ∷ []) ∷ move.Return None ∷ []

-- a switch whose first key is the greatest number, so that the second is the least
abbrev pub switches : NamedProgram
switches = one_class to_int (code 1 0
    (form.Const 0 (negsuc 2147483647)
    ∷ form.PackedSwitch 0 (pos 2147483647) (2 ∷ 4 ∷ [])
    ∷ form.Const 0 (pos 1)
    ∷ form.Return slot.Word 0
    ∷ form.Const 0 (pos 2)
    ∷ form.Return slot.Word 0
    ∷ []))

-- LA;'s initialiser logs and then puts 5 into its x, which m answers
abbrev pub own_x_key : FieldKey
own_x_key = record { class = a_type; name = codes "x"; kind = int_type }

abbrev pub initialised_before_entry : NamedProgram
initialised_before_entry = program V035
    (class a_type 1 []
    (record { name = codes "x"; kind = int_type; flags = 9; first = None; marks = [] } ∷ [])
    (method (codes "<clinit>") void 65544 (Some (code 1 0 (logs ∷ form.Const 0 (pos 5) ∷ form.StaticPut item.Plain 0 own_x_key ∷ form.ReturnVoid ∷ [])))
    ∷ method (codes "m") to_int 9 (Some (code 1 0 (form.StaticGet item.Plain 0 own_x_key ∷ form.Return slot.Word 0 ∷ [])))
    ∷ [])
    ∷ [])

-- LC;'s initialiser logs and then throws; LD;'s m answers 2
abbrev pub d_type : Text
d_type = codes "LD;"

abbrev pub fails_before_making : NamedProgram
fails_before_making = program V035
    (class c_type 1 [] [] (method (codes "<clinit>") void 65544 (Some (code 1 0 (logs ∷ form.Const 0 (pos 0) ∷ form.Throw 0 ∷ []))) ∷ [])
    ∷ class d_type 1 [] [] (method (codes "m") to_int 9 (Some (code 1 0 (form.Const 0 (pos 2) ∷ form.Return slot.Word 0 ∷ []))) ∷ [])
    ∷ [])

abbrev pub keeps_c_and_m : Outer
keeps_c_and_m = record (keeps_nothing) { classes = text_eq c_type; methods = method_eq (record { class = d_type; name = codes "m"; signature = to_int }) }

abbrev pub make_then_enter : List Move
make_then_enter = move.Make c_type ∷ move.Return None ∷ move.Enter d_type (codes "m") (codes "()I") [] ∷ []

-- LB; has a constructor, which is kept
abbrev pub constructor_lets_make : NamedProgram
constructor_lets_make = program V035 (class b_type 1 [] [] (constructor ∷ []) ∷ [])

abbrev pub keeps_b_constructor : Outer
keeps_b_constructor = record (keeps_nothing) { methods = method_eq (constructor_key b_type); constructed = text_eq b_type }

-- LB; under LC; overrides its method r, and r of LC; is kept
abbrev pub override_is_entered : NamedProgram
override_is_entered = program V035
    (class c_type 1 [] [] (r_method 1 (Some (code 1 1 (form.ReturnVoid ∷ []))) ∷ [])
    ∷ record (class b_type 1 [] [] (r_method 1 (Some (log_code 1)) ∷ [])) { superclass = c_type }
    ∷ [])

abbrev pub keeps_r_of_c : Outer
keeps_r_of_c = record (keeps_nothing) { classes = text_eq b_type; methods = method_eq (r_key c_type); keepers = λ n q. c_type ∷ [] }
