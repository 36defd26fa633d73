-- What a program defines under a number.
use Rattle.std.specs.Prelude.{ℕ, ◌+◌, List, [], ◌∷◌, Option, Some, None, nat_eq, position, slice_get, option_and_then}
use Rattle.insn_set.specs.declared.form.Insn.{Insn}
use Rattle.program_model.specs.declared.program.Method.{Method}
use Rattle.program_model.specs.declared.program.MethodAt.{MethodAt}
use Rattle.program_model.specs.declared.program.Class.{Class}
use Rattle.program_model.specs.declared.program.Program.{Program}

-- the place of the first class that defines the type
abbrev pub class_place : Program → ℕ → Option ℕ
class_place program kind = position (λ class. nat_eq class.name kind) program.classes

-- a method of the class at this place, or else the other answer
abbrev pub method_or : ℕ → Option ℕ → Option MethodAt → Option MethodAt
method_or class (Some place) other = Some (record { class = class; place = place })
method_or class None other = other

-- the first of these classes, of which the first has this place, that defines the method, and where
abbrev pub method_from : ℕ → List Class → ℕ → Option MethodAt
method_from class [] method = None
method_from class (c ∷ cs) method = method_or class (position (λ m. nat_eq m.name method) c.methods) (method_from (class + 1) cs method)

abbrev pub method_place : Program → ℕ → Option MethodAt
method_place program method = method_from 0 program.classes method

-- the method at a place
abbrev pub method_at : Program → MethodAt → Option Method
method_at program at = option_and_then (λ c. slice_get c.methods at.place) (slice_get program.classes at.class)

-- the instruction at a position of a method with code
abbrev pub insn_at : Program → MethodAt → ℕ → Option Insn
insn_at program at p = option_and_then (λ m. option_and_then (λ body. slice_get body.insns p) m.body) (method_at program at)
