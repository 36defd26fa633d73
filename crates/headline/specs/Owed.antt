-- What a pass owes.
use Rattle.std.specs.Prelude.{◌≡◌, ℕ, Bool, true, List}
use Rattle.program_model.specs.declared.pass.Origin.{Origin}
use Rattle.program_model.specs.declared.pass.Outside.{Outside}
use Rattle.program_model.specs.declared.program.Program.{Program}
use Rattle.program_model.specs.ProgramRules.{is_well_formed}
use Rattle.class_defs.specs.ClassGraph.{IsTwice, IsAncestor}
use Rattle.dalvik_defs.specs.Names.{Text}
use Rattle.dalvik_defs.specs.Naming.{named}
use Rattle.dalvik_defs.specs.Outer.{outer_of}
use Rattle.dalvik_defs.specs.Under.{defines}
use Rattle.dalvik_defs.specs.Shown.{SameShown}
use Rattle.program_laws.specs.Virtual.{VirtualsStay}
use Rattle.program_laws.specs.Shutting.{ShutsAlike, with_shut}
use Rattle.pass_defs.specs.Typed.{IsTyped}
use Rattle.removal_law.specs.Reach.{ShutsHold}
use Rattle.hierarchy.specs.Splitting.{NoSplit}
use Rattle.pipeline.specs.Passes.{Pass, Does}

-- A well-formed and typed program, whose class graph has no fault: no class of it is defined twice, is its own ancestor, or
-- repeats a package-private method of another package.
pub record IsSound (p : Program) : Type 0 where
  pub formed : is_well_formed p ≡ true
  pub once : (class : ℕ) → IsTwice p class → ⊥
  pub grounded : (class : ℕ) → IsAncestor p class class → ⊥
  pub whole : NoSplit p
  pub typed : IsTyped (named p)

-- What is left is sound, it defines no more classes, and its virtual methods are some of those that there were. By the tables of both
-- programs the outside names the same but for silent and shut methods, and shuts the same of the virtual methods that are left. Where
-- the table of shut methods holds what it says, the same is shown, by the names that the numbers had before, and the table holds that
-- of what is left, by the names that they have then.
pub record Owes (o : Outside) (p q : Program) : Type 0 where
  pub sound : IsSound q
  pub virtuals : VirtualsStay (named p) (named q)
  pub outer : outer_of q o ≡ with_shut (outer_of p o) (outer_of q o).silent (outer_of q o).shut
  pub shuts : ShutsAlike (named q) (outer_of p o).shut (outer_of q o).shut
  pub fewer : (t : Text) → defines (named q) t ≡ true → defines (named p) t ≡ true
  pub shown : ShutsHold (named p) (outer_of p o) → SameShown (named p) (named q) (outer_of p o)
  pub holds : ShutsHold (named p) (outer_of p o) → ShutsHold (named q) (outer_of q o)

-- Whatever the pass does to a sound program, it owes this.
pub record Keeps (o : Outside) (admitted : List Bool) (pass : Pass) : Type 0 where
  pub owes : (p q : Program) (moved : List (List Origin)) → IsSound p → Does o admitted pass p q moved → Owes o p q
