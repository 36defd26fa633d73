-- What making methods static keeps of a program for one outside.
use Rattle.std.specs.Prelude.{◌≡◌, ℕ, true}
use Rattle.program_model.specs.declared.pass.Outside.{Outside}
use Rattle.program_model.specs.declared.program.Program.{Program}
use Rattle.class_defs.specs.ClassGraph.{IsAncestor, IsTwice}
use Rattle.dalvik_defs.specs.Names.{Text}
use Rattle.dalvik_defs.specs.Naming.{named}
use Rattle.dalvik_defs.specs.Outer.{outer_of}
use Rattle.dalvik_defs.specs.Shown.{SameShown}
use Rattle.dalvik_defs.specs.Under.{defines}
use Rattle.pass_defs.specs.Typed.{IsTyped}
use Rattle.removal_law.specs.Reach.{ShutsHold}
use Rattle.hierarchy.specs.Splitting.{NoSplit}
use Rattle.program_laws.specs.Shutting.{ShutsAlike, with_shut}

-- It is typed and shows the same for this outside, its class graph has no fault, and it defines no more classes. By the tables of
-- both programs the outside names the same but for silent and shut methods, and shuts the same of the virtual methods that are left. Where
-- the table of shut methods holds what it says, it holds that of what is left.
pub record IsMadeStatic (o : Outside) (p q : Program) : Type 0 where
  pub typed : IsTyped (named q)
  pub shown : SameShown (named p) (named q) (outer_of p o)
  pub fewer : (t : Text) → defines (named q) t ≡ true → defines (named p) t ≡ true
  pub once : (class : ℕ) → IsTwice q class → ⊥
  pub grounded : (class : ℕ) → IsAncestor q class class → ⊥
  pub whole : NoSplit q
  pub outer : outer_of q o ≡ with_shut (outer_of p o) (outer_of q o).silent (outer_of q o).shut
  pub shuts : ShutsAlike (named q) (outer_of p o).shut (outer_of q o).shut
  pub holds : ShutsHold (named p) (outer_of p o) → ShutsHold (named q) (outer_of q o)
