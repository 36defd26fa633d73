-- What making methods static keeps of a program for one outside, where the table of shut methods holds what it says.
use Rattle.std.specs.Prelude.{◌≡◌, ℕ, true}
use Rattle.program_model.specs.declared.pass.Outside.{Outside}
use Rattle.program_model.specs.declared.program.Program.{Program}
use Rattle.class_defs.specs.ClassGraph.{IsAncestor, IsTwice}
use Rattle.dalvik_defs.specs.Names.{Text}
use Rattle.dalvik_defs.specs.Naming.{named}
use Rattle.dalvik_defs.specs.Outer.{outer_of}
use Rattle.dalvik_defs.specs.Shown.{SameShown}
use Rattle.dalvik_defs.specs.Under.{defines}
use Rattle.hierarchy.specs.Splitting.{NoSplit}
use Rattle.program_laws.specs.Virtual.{VirtualsStay}
use Rattle.program_laws.specs.Shutting.{ShutsAlike, with_shut}
use Rattle.pass_defs.specs.Typed.{IsTyped}
use Rattle.removal_law.specs.Reach.{ShutsHold}

-- It is typed, its class graph has no fault, it defines no more classes, and its virtual methods are some of those that there were. By
-- the tables of both programs the outside names the same but for silent and shut methods, and shuts the same of the virtual methods that
-- are left. Where the table of shut methods holds what it says, it shows the same, and the table holds that of what is left.
pub record IsKeptStatic (o : Outside) (p q : Program) : Type 0 where
  pub typed : IsTyped (named q)
  pub fewer : (t : Text) → defines (named q) t ≡ true → defines (named p) t ≡ true
  pub virtuals : VirtualsStay (named p) (named q)
  pub once : (class : ℕ) → IsTwice q class → ⊥
  pub grounded : (class : ℕ) → IsAncestor q class class → ⊥
  pub whole : NoSplit q
  pub outer : outer_of q o ≡ with_shut (outer_of p o) (outer_of q o).silent (outer_of q o).shut
  pub shuts : ShutsAlike (named q) (outer_of p o).shut (outer_of q o).shut
  pub shown : ShutsHold (named p) (outer_of p o) → SameShown (named p) (named q) (outer_of p o)
  pub holds : ShutsHold (named p) (outer_of p o) → ShutsHold (named q) (outer_of q o)
