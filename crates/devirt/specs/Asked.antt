-- What the pass asks is of the program.
use Rattle.std.specs.Prelude.{◌≡◌, All, ℕ, true, List, Option, Some, None}
use Rattle.std.specs.Option.{option_map}
use Rattle.program_model.specs.declared.body.Body.{Body}
use Rattle.program_model.specs.declared.program.Method.{Method}
use Rattle.program_model.specs.declared.program.MethodAt.{MethodAt}
use Rattle.program_model.specs.declared.program.Program.{Program}
use Rattle.program_model.specs.ProgramRules.{is_well_formed}
use Rattle.hierarchy.specs.Shapes.{IsResolved}
use Rattle.hierarchy.specs.declared.build.Hierarchy.{Hierarchy}
use Rattle.facts.specs.declared.facts.Facts.{Facts}
use Rattle.rewrite_pass.specs.declared.edit.Edit.{Edit}
use Rattle.verify.specs.Flow.{places_of}
use Rattle.verify.specs.Methods.{TypesAt, RefusesAt, IsFor}
use Rattle.verify.specs.Typings.{Table}
use Rattle.verify.specs.declared.fault.TypeFault.TheVariants as fault
use Rattle.verify.specs.declared.typed.Typings.{Typings}
use Rattle.verify.specs.declared.typed.Verifier.{Verifier}
use Rattle.receivers.specs.Receiving.{IsFinding}
use Rattle.devirt.specs.declared.binding.Binder.{Binder}
use Rattle.devirt.specs.declared.pass.Rebinding.{Rebinding}
use Rattle.devirt.specs.Rebound.{IsRecalledAt, AreRebindings}

-- the program is well-formed, and what is asked of its classes is answered by their tables
pub record IsBinding (s : Binder) : Type 0 where
  pub finding : IsFinding s.finder
  pub formed : is_well_formed s.finder.program.now ≡ true

-- the hierarchy is that of the program's classes
abbrev pub IsGraphed : Program → Hierarchy → Type 0
IsGraphed p h = (is_well_formed p ≡ true) × IsResolved p h

-- what is asked is of one program and its hierarchy
pub record IsAsked (s : Rebinding) : Type 0 where
  pub typed : IsFor s.binder.finder.program.now s.binder.finder.hierarchy.now s.verifier
  pub finds : IsGraphed s.binder.finder.program.now s.binder.finder.hierarchy.now → IsBinding s.binder

-- the table of a typing that was asked for
abbrev pub table_of : Option Typings → Option Table
table_of o = option_map (λ t. places_of t.states.items) o

-- the least typing of a method by a verifier, or none where the method is ill typed
abbrev pub IsJudgedBy : Verifier → MethodAt → Option Table → Type 0
IsJudgedBy v at (Some x) = TypesAt v at x
IsJudgedBy v at None = (method : ℕ) × (position : ℕ) × (register : ℕ) × RefusesAt v at (fault.IllTyped method position register)

-- What is written whatever the hierarchy is, and where it is that of the program's classes.
pub record ReboundWell (p : Program) (h : Hierarchy) (facts : Facts) (at : MethodAt) (m : Method) (b : Body) (es : List Edit) : Type 0 where
  pub becomes : All (IsRecalledAt b) es
  pub rebound : IsGraphed p h → AreRebindings p h facts at m b es
