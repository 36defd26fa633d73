-- Small programs for the examples of `call_examples.rt`.
use Rattle.std.specs.Prelude.{ℕ, pos, List, [], ◌∷◌, Option, Some, None, codes}
use Rattle.insn_set.specs.declared.ops.Slot.TheVariants as slot
use Rattle.insn_set.specs.declared.ops.InvokeKind.TheVariants as call
use Rattle.program_model.specs.declared.program.Version.{Version}
use Rattle.program_model.specs.declared.program.Version.TheVariants.{V035}
use Rattle.dalvik_defs.specs.Names.{Text, text_eq, method_eq, field_eq, object_type, void}
use Rattle.dalvik_defs.specs.Outer.{Outer}
use Rattle.dalvik_defs.specs.Step.{shows}
use Rattle.dalvik_defs.specs.Examples.{a_type, b_type, c_type, i_type, int_type, code, method, class, program, one_class, interface, constructor, constructor_key, calls_r, keeps_nothing, keeps_m, log_code, logs, r_key, r_method, takes_array, own_x_key, make_and_call, puts_item}
use Rattle.dalvik_defs.specs.declared.names.MethodKey.{MethodKey}
use Rattle.dalvik_defs.specs.declared.forms.Form.{Form}
use Rattle.dalvik_defs.specs.declared.forms.Form.TheVariants as form
use Rattle.dalvik_defs.specs.declared.program.NamedMethod.{NamedMethod}
use Rattle.dalvik_defs.specs.declared.program.NamedProgram.{NamedProgram}
use Rattle.dalvik_defs.specs.declared.script.Move.{Move}
use Rattle.dalvik_defs.specs.declared.events.Event.{Event}

-- what a program shows in n steps under a table of what is kept
abbrev pub shown_under : Outer → NamedProgram → List Move → ℕ → List Event
shown_under o p script n = shows p o (record { rows = [] }) (record { rows = [] }) script n

-- ---- super calls

abbrev pub calls_above : Text → NamedMethod
calls_above type = r_method 1 (Some (code 1 1 (form.Invoke call.Super (r_key type) (0 ∷ []) ∷ form.ReturnVoid ∷ [])))

abbrev pub keeps_r_of_b : Outer
keeps_r_of_b = record (keeps_nothing) { classes = text_eq b_type; methods = method_eq (r_key b_type) }

-- LB;'s r calls that of the class LC; above it, which logs
abbrev pub calls_superclass : Version → NamedProgram
calls_superclass version = program version
    (class c_type 1 [] [] (r_method 1 (Some (log_code 1)) ∷ []) ∷ record (class b_type 1 [] [] (calls_above c_type ∷ [])) { superclass = c_type } ∷ [])

-- LB;'s r calls that of its interface LI;, which logs
abbrev pub calls_interface_above : Version → NamedProgram
calls_interface_above version = program version (interface i_type (r_method 1 (Some (log_code 1))) ∷ class b_type 1 (i_type ∷ []) [] (calls_above i_type ∷ []) ∷ [])

-- ---- methods without code

-- LB;'s r has no code and these flags
abbrev pub uncoded_r : ℕ → NamedProgram
uncoded_r flags = program V035 (calls_r ∷ interface i_type (r_method 1025 None) ∷ class b_type 1 (i_type ∷ []) [] (constructor ∷ r_method flags None ∷ []) ∷ [])

-- a static call of the native method n
abbrev pub calls_native : NamedProgram
calls_native = program V035
    (class a_type 1 [] []
    (method (codes "m") void 9 (Some (code 0 0 (form.Invoke call.Static (record { class = a_type; name = codes "n"; signature = void }) [] ∷ form.ReturnVoid ∷ [])))
    ∷ method (codes "n") void 265 None
    ∷ [])
    ∷ [])

-- Object's constructor called as it can't be
abbrev pub calls_constructor_statically : NamedProgram
calls_constructor_statically = one_class void (code 0 0 (form.Invoke call.Static (constructor_key object_type) [] ∷ form.ReturnVoid ∷ []))

-- ---- moves of the framework

-- a class with a static field that is kept
abbrev pub has_field : NamedProgram
has_field = program V035 (class a_type 1 [] (record { name = codes "x"; kind = int_type; flags = 9; first = None; marks = [] } ∷ []) [] ∷ [])

abbrev pub keeps_x : Outer
keeps_x = record (keeps_nothing) { fields = field_eq own_x_key }

-- the same, in each object
abbrev pub has_own_field : NamedProgram
has_own_field = program V035 (class a_type 1 [] (record { name = codes "x"; kind = int_type; flags = 1; first = None; marks = [] } ∷ []) [] ∷ [])

abbrev pub keeps_a_and_x : Outer
keeps_a_and_x = record (keeps_x) { classes = text_eq a_type }
