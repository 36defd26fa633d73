-- What a pass on bodies keeps of a program for one outside.
use Rattle.std.specs.Prelude.{◌≡◌, true}
use Rattle.program_model.specs.ProgramRules.{is_well_formed}
use Rattle.program_model.specs.declared.pass.Outside.{Outside}
use Rattle.program_model.specs.declared.program.Program.{Program}
use Rattle.dalvik_defs.specs.Naming.{named}
use Rattle.dalvik_defs.specs.Outer.{outer_of}
use Rattle.dalvik_defs.specs.Shown.{SameShown}
use Rattle.pass_defs.specs.Typed.{IsTyped}
use Rattle.program_laws.specs.Numbered.{OtherNumberedBodies}
use Rattle.removal_law.specs.Reach.{ShutsHold}
use Rattle.bodies_kept.specs.Kept.{AnyCode}

-- It keeps the rules and is typed, has the same tables, and the same classes and members but for bodies and source lines, and it
-- shows the same for this outside, where the table of shut methods holds what it says. `Owes` of headline takes `formed` and
-- `typed` for what is sound, `others` for the class graph, the outside by names and the classes that are defined, and `shown`.
pub record IsKeptFor (o : Outside) (p q : Program) : Type 0 where
  pub formed : is_well_formed q ≡ true
  pub typed : IsTyped (named q)
  pub others : OtherNumberedBodies AnyCode p q
  pub shown : ShutsHold (named p) (outer_of p o) → SameShown (named p) (named q) (outer_of p o)
