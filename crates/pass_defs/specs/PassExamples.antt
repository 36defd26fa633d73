-- Small programs for the examples of `passes.rt`: what each pass looks for, and what it leaves alone.
use Rattle.std.specs.Prelude.{◌≡◌, ℕ, zero, suc, pos, true, List, [], ◌∷◌, map, length, Option, Some, None, codes}
use Rattle.insn_set.specs.declared.ops.Slot.{Slot}
use Rattle.insn_set.specs.declared.ops.Slot.TheVariants as slot
use Rattle.insn_set.specs.declared.ops.Test.TheVariants as test
use Rattle.insn_set.specs.declared.ops.BinaryOp.TheVariants as binary
use Rattle.insn_set.specs.declared.ops.LiteralOp.TheVariants as literal
use Rattle.insn_set.specs.declared.ops.InvokeKind.TheVariants as call
use Rattle.insn_set.specs.declared.form.Insn.TheVariants as insn
use Rattle.program_model.specs.declared.body.Body.{Body}
use Rattle.program_model.specs.declared.pass.Origin.{Origin}
use Rattle.program_model.specs.declared.program.Version.TheVariants.{V035, V037}
use Rattle.dalvik_defs.specs.Names.{Text, void}
use Rattle.dalvik_defs.specs.Find.{Found}
use Rattle.dalvik_defs.specs.Examples.{a_type, b_type, i_type, j_type, to_int, code, method, class, program, constructor, constructor_key, one_class, m_key, r_key, r_method, log_code}
use Rattle.dalvik_defs.specs.State.{State, On, New, opening_world}
use Rattle.dalvik_defs.specs.declared.state.Value.{Value}
use Rattle.dalvik_defs.specs.declared.state.Value.TheVariants as value
use Rattle.dalvik_defs.specs.declared.state.Waiting.TheVariants.{Method}
use Rattle.dalvik_defs.specs.declared.state.Frame.{Frame}
use Rattle.dalvik_defs.specs.declared.names.Signature.{Signature}
use Rattle.dalvik_defs.specs.declared.names.MethodKey.{MethodKey}
use Rattle.dalvik_defs.specs.declared.forms.Form.{Form}
use Rattle.dalvik_defs.specs.declared.forms.Form.TheVariants as form
use Rattle.dalvik_defs.specs.declared.program.NamedBody.{NamedBody}
use Rattle.dalvik_defs.specs.declared.program.NamedMethod.{NamedMethod}
use Rattle.dalvik_defs.specs.declared.program.NamedClass.{NamedClass}
use Rattle.dalvik_defs.specs.declared.program.NamedProgram.{NamedProgram}
use Rattle.pass_defs.specs.Kinds.{Undefined, Word}
use Rattle.pass_defs.specs.Typed.{Table}
use Rattle.pass_defs.specs.Flat.{Flat, KnownWord, Any}
use Rattle.pass_defs.specs.Facts.{Facts}
use Rattle.pass_defs.specs.FlatAnalysis.{flat_holds}
use Rattle.pass_defs.specs.Site.{Caller}
use Rattle.pass_defs.specs.Examples.{kinds, q_signature, adds_two}

abbrev pub key_of : Text → Text → Signature → MethodKey
key_of t name signature = record { class = t; name = name; signature = signature }

abbrev pub to_wide : Signature
to_wide = record { parameters = []; result = codes "J" }

abbrev pub of_wide : Signature
of_wide = record { parameters = codes "J" ∷ []; result = codes "V" }

-- ---- constants

-- LA;'s spin never comes back, and m takes what it gives as a wide
abbrev pub spin_key : MethodKey
spin_key = key_of a_type (codes "spin") to_wide

abbrev pub spin : NamedMethod
spin = method (codes "spin") to_wide 9 (Some (code 0 0 (form.Goto 0 ∷ [])))

abbrev pub takes_spin : NamedBody
takes_spin = code 2 0
    (form.Invoke call.Static spin_key []
    ∷ form.MoveResult slot.Wide 0
    ∷ form.Invoke call.Static (key_of (codes "LLog;") (codes "sink") of_wide) (0 ∷ 1 ∷ [])
    ∷ form.ReturnVoid
    ∷ [])

abbrev pub m_of : Signature → NamedBody → NamedMethod
m_of signature body = method (codes "m") signature 9 (Some body)

abbrev pub spins : NamedProgram
spins = program V035 (class a_type 1 [] [] (m_of void takes_spin ∷ spin ∷ []) ∷ [])

-- m adds 3 to 2 and gives the sum
abbrev pub adds_three : NamedBody
adds_three = code 2 0 (form.Const 0 (pos 2) ∷ form.Literal literal.AddInt 1 0 (pos 3) ∷ form.Return slot.Word 1 ∷ [])

abbrev pub adds : NamedProgram
adds = one_class to_int adds_three

-- the registers of m, position by position
abbrev pub first_two : Flat → Flat → ℕ → Flat
first_two x y zero = x
first_two x y (suc zero) = y
first_two x y n = Any

abbrev pub adds_registers : ℕ → Option (ℕ → Flat)
adds_registers zero = Some (λ r. Any)
adds_registers (suc zero) = Some (first_two (KnownWord 2) Any)
adds_registers (suc (suc zero)) = Some (first_two (KnownWord 2) (KnownWord 5))
adds_registers n = None

abbrev pub knows_sum : Facts Flat
knows_sum = record { parameters = λ k i. Any; results = λ k. Any; registers = λ k n. adds_registers n; fields = λ k. Any }

-- a state of m, in front of the addition
abbrev pub frame_with : ℕ → Frame
frame_with n = record { method = m_key to_int; position = 1; registers = value.Word n ∷ value.Word 0 ∷ []; result = value.Word 0; caught = value.Word 0 }

abbrev pub state_with : ℕ → State
state_with n = On opening_world (λ t. New) (Method (frame_with n) ∷ []) []

abbrev pub says : Flat → Value → Type 0
says x v = flat_holds x [] v

-- what m may become, where its facts say that the form at each place gives 5, and its typing
abbrev pub knows_five : NamedBody
knows_five = code 2 0 (form.Const 0 (pos 2) ∷ form.Const 1 (pos 5) ∷ form.Return slot.Word 1 ∷ [])

abbrev pub five_given : ℕ → Form → Type 0
five_given n g = g ≡ form.Const 1 (pos 5)

abbrev pub sum_typed : Table
sum_typed = Some (kinds (Undefined ∷ Undefined ∷ [])) ∷ Some (kinds (Word ∷ Undefined ∷ [])) ∷ Some (kinds (Word ∷ Word ∷ [])) ∷ []

-- ---- copies

-- register 1 is a copy of register 0, and is given back; in the other body 0 is written in between
abbrev pub reads_copy : NamedBody
reads_copy = code 2 0 (form.Const 0 (pos 5) ∷ form.Move slot.Word 1 0 ∷ form.Return slot.Word 1 ∷ [])

abbrev pub copy_is_old : NamedBody
copy_is_old = code 2 0 (form.Const 0 (pos 5) ∷ form.Move slot.Word 1 0 ∷ form.Const 0 (pos 7) ∷ form.Return slot.Word 1 ∷ [])

-- register 2 is a copy of register 0, and is given back as it was copied, or in another width
abbrev pub gives_copy : Slot → Slot → NamedBody
gives_copy copied given = code 4 0 (form.ConstWide 0 (pos 5) ∷ form.Move copied 2 0 ∷ form.Return given 2 ∷ [])

-- ---- registers

-- two registers that are needed at once, and one that could be the other
abbrev pub needs_both : NamedBody
needs_both = code 2 0 (form.Const 0 (pos 1) ∷ form.Const 1 (pos 2) ∷ form.Binary binary.AddInt 0 0 1 ∷ form.Return slot.Word 0 ∷ [])

abbrev pub skips_one : NamedBody
skips_one = code 2 0 (form.Const 1 (pos 1) ∷ form.Return slot.Word 1 ∷ [])

-- ---- dropped calls

-- m calls LA;'s q and doesn't take its result
abbrev pub q_key : MethodKey
q_key = key_of a_type (codes "q") q_signature

abbrev pub ignores_q : NamedBody
ignores_q = code 1 0 (form.Const 0 (pos 1) ∷ form.Invoke call.Static q_key (0 ∷ []) ∷ form.ReturnVoid ∷ [])

abbrev pub drops_q : NamedProgram
drops_q = program V035 (class a_type 1 [] [] (m_of void ignores_q ∷ adds_two ∷ []) ∷ [])

-- ---- methods made static

-- LA; has a public q and LB; under it a private one; m calls q of LB; on an object of LB;
abbrev pub nothing_key : Text → MethodKey
nothing_key t = key_of t (codes "q") void

abbrev pub nothing_method : ℕ → NamedMethod
nothing_method flags = method (codes "q") void flags (Some (code 1 1 (form.ReturnVoid ∷ [])))

abbrev pub calls_hidden : NamedBody
calls_hidden = code 1 0
    (form.NewInstance 0 b_type
    ∷ form.Invoke call.Direct (constructor_key b_type) (0 ∷ [])
    ∷ form.Invoke call.Virtual (nothing_key b_type) (0 ∷ [])
    ∷ form.ReturnVoid
    ∷ [])

abbrev pub under_a : NamedClass → NamedClass
under_a c = record c { superclass = a_type }

abbrev pub hides_q : NamedProgram
hides_q = program V035
    (class a_type 1 [] [] (m_of void calls_hidden ∷ nothing_method 1 ∷ [])
    ∷ under_a (class b_type 1 [] [] (constructor ∷ nothing_method 2 ∷ []))
    ∷ [])

-- without the private one the same call names the q of LA;
abbrev pub inherits_q : NamedProgram
inherits_q = program V035
    (class a_type 1 [] [] (m_of void calls_hidden ∷ nothing_method 1 ∷ [])
    ∷ under_a (class b_type 1 [] [] (constructor ∷ []))
    ∷ [])

-- ---- calls that are rebound

abbrev pub found_in : Text → ℕ → Found
found_in t flags = record { key = r_key t; flags = flags; coded = true }

-- a class of another package, and one of the package below
abbrev pub app_type : Text
app_type = codes "Lapp/A;"

abbrev pub lib_type : Text
lib_type = codes "Lapp/lib/B;"

abbrev pub in_library : ℕ → NamedProgram
in_library flags = program V035 (class lib_type flags [] [] (r_method 1 (Some (log_code 1)) ∷ []) ∷ [])

-- LJ; under LI;, both interfaces with a method r with code, and LA;'s too
abbrev pub extends_interface : NamedProgram
extends_interface = program V037
    (class i_type 1537 [] [] (r_method 1 (Some (log_code 1)) ∷ [])
    ∷ class j_type 1537 (i_type ∷ []) [] (r_method 1 (Some (log_code 1)) ∷ [])
    ∷ class (codes "LK;") 1537 (i_type ∷ []) [] []
    ∷ class (codes "LL;") 1537 [] [] (r_method 1 (Some (log_code 1)) ∷ [])
    ∷ [])

-- the caller's m takes an object of the holder, and calls r of the interface LI; on it
abbrev pub calls_interface : NamedBody
calls_interface = code 1 1 (form.Invoke call.Interface (r_key i_type) (0 ∷ []) ∷ form.ReturnVoid ∷ [])

abbrev pub rebinds_method : Text → NamedMethod
rebinds_method holder = m_of (record { parameters = holder ∷ []; result = codes "V" }) calls_interface

abbrev pub rebinds_caller : Text → Text → NamedClass
rebinds_caller caller holder = class caller 1 [] [] (rebinds_method holder ∷ [])

abbrev pub rebinds_holder : Text → ℕ → NamedClass
rebinds_holder holder flags = class holder flags (i_type ∷ []) [] (r_method 1 (Some (log_code 1)) ∷ [])

abbrev pub rebinds : Text → Text → ℕ → NamedProgram
rebinds caller holder flags = program V035 (class i_type 1537 [] [] (r_method 1025 None ∷ []) ∷ rebinds_caller caller holder ∷ rebinds_holder holder flags ∷ [])

-- ---- inlining

-- LA;'s m and n both call q with 1 and give its result
abbrev pub gives_q : NamedBody
gives_q = code 1 0
    (form.Const 0 (pos 1)
    ∷ form.Invoke call.Static q_key (0 ∷ [])
    ∷ form.MoveResult slot.Word 0
    ∷ form.Return slot.Word 0
    ∷ [])

abbrev pub n_of : NamedMethod
n_of = method (codes "n") to_int 9 (Some gives_q)

abbrev pub both_call_q : NamedProgram
both_call_q = program V035 (class a_type 1 [] [] (m_of to_int gives_q ∷ n_of ∷ adds_two ∷ []) ∷ [])

abbrev pub caller_m : Caller
caller_m = record { key = m_key to_int; method = m_of to_int gives_q; body = gives_q; accepted = 1 ∷ [] }

abbrev pub caller_n : Caller
caller_n = record { key = key_of a_type (codes "n") to_int; method = n_of; body = gives_q; accepted = 1 ∷ [] }

abbrev pub forms_in : Option NamedBody → ℕ
forms_in None = 0
forms_in (Some b) = length b.forms

abbrev pub sizes_of : NamedProgram → List (List ℕ)
sizes_of p = map (λ c. map (λ m. forms_in m.body) c.methods) p.classes

-- ---- thinning

-- A nop and a skipped number go; the branch over them, and the region that covered one of them alone, follow.
abbrev pub branches_over : Body
branches_over = record {
  registers = 1;
  ins = 0;
  insns = insn.IfZero test.Eq 0 3 ∷ insn.Nop ∷ insn.Const 0 (pos 1) ∷ insn.Return slot.Word 0 ∷ insn.Goto 0 ∷ [];
  regions = record { first = 1; end = 2; handlers = []; rest = Some 3 } ∷ record { first = 2; end = 4; handlers = []; rest = Some 4 } ∷ [];
}

abbrev pub branches_next : Body
branches_next = record {
  registers = 1;
  ins = 0;
  insns = insn.IfZero test.Eq 0 2 ∷ insn.Nop ∷ insn.Return slot.Word 0 ∷ insn.Goto 0 ∷ [];
  regions = record { first = 1; end = 3; handlers = []; rest = Some 3 } ∷ [];
}

abbrev pub at : ℕ → ℕ → Origin
at m n = record { method = m; position = n }
