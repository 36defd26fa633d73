-- What a pass on bodies keeps of a program.
use Rattle.std.specs.Prelude.{◌≡◌, true, Option}
use Rattle.program_model.specs.ProgramRules.{is_well_formed}
use Rattle.program_model.specs.declared.body.Body.{Body}
use Rattle.program_model.specs.declared.program.Program.{Program}
use Rattle.dalvik_defs.specs.Naming.{named}
use Rattle.dalvik_defs.specs.Outer.{Outer}
use Rattle.dalvik_defs.specs.Shown.{SameShown}
use Rattle.dalvik_defs.specs.declared.names.MethodKey.{MethodKey}
use Rattle.pass_defs.specs.Typed.{IsTyped}
use Rattle.program_laws.specs.Numbered.{OtherNumberedBodies}

-- whatever code there was and is
abbrev pub AnyCode : MethodKey → Option Body → Option Body → Type 0
AnyCode k a b = Unit {0}

-- It keeps the rules and is typed, has the same tables, and the same classes and members but for bodies and source lines, and it
-- shows the same, for every outside.
pub record IsKept (p q : Program) : Type 0 where
  pub formed : is_well_formed q ≡ true
  pub typed : IsTyped (named q)
  pub others : OtherNumberedBodies AnyCode p q
  pub shown : (o : Outer) → SameShown (named p) (named q) o
