-- Small programs for the examples of `kept_examples.rt`: members that rules keep, by which the framework makes objects and
-- calls what their classes find.
use Rattle.std.specs.Prelude.{ℕ, true, false, List, [], ◌∷◌, Some, None, codes}
use Rattle.program_model.specs.declared.program.Version.{Version}
use Rattle.program_model.specs.declared.program.Version.TheVariants.{V035}
use Rattle.dalvik_defs.specs.Names.{Text, text_eq, method_eq, void}
use Rattle.dalvik_defs.specs.Outer.{Outer}
use Rattle.dalvik_defs.specs.Examples.{b_type, c_type, i_type, code, class, program, keeps_nothing, constructor, constructor_key, with_m, interface, r_key, r_method, log_code}
use Rattle.dalvik_defs.specs.declared.forms.Form.TheVariants as form
use Rattle.dalvik_defs.specs.declared.program.NamedClass.{NamedClass}
use Rattle.dalvik_defs.specs.declared.program.NamedProgram.{NamedProgram}
use Rattle.pass_defs.specs.Live.{Conditions}

-- LB; stands under a class of the framework and has a constructor and a virtual method r; LA; names it alone
abbrev pub b_of_framework : NamedClass
b_of_framework = record (class b_type 1 [] [] (constructor ∷ r_method 1 (Some (log_code 1)) ∷ [])) { superclass = codes "LView;" }

abbrev pub names_view : NamedProgram
names_view = program V035 (with_m void (code 1 0 (form.ConstClass 0 b_type ∷ form.ReturnVoid ∷ [])) ∷ b_of_framework ∷ [])

-- `-keepclassmembers class B { <init>(); }`
abbrev pub keeps_constructor : Conditions
keeps_constructor = record { methods = method_eq (constructor_key b_type); fields = λ k. false; classes = λ t owner. false }

-- LC; stands under LB; and overrides its r
abbrev pub overrides_r : NamedProgram
overrides_r = program V035
    (class b_type 1 [] [] (constructor ∷ r_method 1 (Some (log_code 1)) ∷ [])
    ∷ record (class c_type 1 [] [] (constructor ∷ r_method 1 (Some (log_code 1)) ∷ [])) { superclass = b_type }
    ∷ [])

-- LB; implements the r of an interface
abbrev pub implements_r : Version → NamedProgram
implements_r version = program version
    (interface i_type (r_method 1025 None)
    ∷ class b_type 1 (i_type ∷ []) [] (constructor ∷ r_method 1 (Some (log_code 1)) ∷ [])
    ∷ [])

-- the rules keep the r of one type, and another class with its constructor alone
abbrev pub keeps_r : Text → Text → Outer
keeps_r owner made = record (keeps_nothing) { classes = text_eq made; methods = method_eq (r_key owner) }
