-- What the proofs know of a program, a table of facts and a framework that fits: what is asked of them, and what follows of
-- the methods that the framework reaches.
use Rattle.std.specs.Prelude.{◌≡◌, ◌⊎◌, ℕ, true, false, List, Some, Contains}
use Rattle.insn_set.specs.declared.ops.InvokeKind.{InvokeKind}
use Rattle.dalvik_defs.specs.Names.{Text}
use Rattle.dalvik_defs.specs.Flags.{is_static}
use Rattle.dalvik_defs.specs.Under.{defines, is_under}
use Rattle.dalvik_defs.specs.Find.{Found, Finds, defined_field}
use Rattle.dalvik_defs.specs.Face.{face_of, bodies_of, declared_in, finds_virtually, place_of}
use Rattle.dalvik_defs.specs.Fields.{first_of}
use Rattle.dalvik_defs.specs.Legal.{may_make, may_reach}
use Rattle.dalvik_defs.specs.Outer.{Outer}
use Rattle.dalvik_defs.specs.declared.forms.Form.{Form}
use Rattle.dalvik_defs.specs.declared.forms.Form.TheVariants as form
use Rattle.dalvik_defs.specs.declared.names.FieldKey.{FieldKey}
use Rattle.dalvik_defs.specs.declared.names.MethodKey.{MethodKey}
use Rattle.dalvik_defs.specs.declared.program.NamedBody.{NamedBody}
use Rattle.dalvik_defs.specs.declared.program.NamedField.{NamedField}
use Rattle.dalvik_defs.specs.declared.program.NamedProgram.{NamedProgram}
use Rattle.dalvik_defs.specs.declared.tables.Floats.{Floats}
use Rattle.dalvik_defs.specs.declared.tables.Framework.{Framework}
use Rattle.pass_defs.specs.Analysis.{Analysis, IsRanged}
use Rattle.pass_defs.specs.Calls.{is_within}
use Rattle.run_facts.specs.Closed.{IsBound, IsClosed}
use Rattle.pass_defs.specs.Facts.{Facts, IsEnteredOn, may_be_made}
use Rattle.pass_defs.specs.Live.{IsMade, unconditional}
use Rattle.program_laws.specs.Results.{AllTakeInPlace}
use Rattle.run_laws.specs.Regular.{IsRegular}
use Rattle.cover_law.specs.Coverable.{IsFormed}
use Rattle.cover_law.specs.Sound.{IsSoundOn}

-- What the framework reaches by its own rows it reaches by the program's lists, or as one of the methods that it may enter.
pub record Reaches (p : NamedProgram) (o : Outer) (f : Framework) : Type 0 where
  -- what a virtual or interface call in code finds on a made object
  pub virtually : (m : MethodKey) (b : NamedBody) (kind : InvokeKind) (k : MethodKey) (args : List ℕ) (t : Text) (g : Found)
      → bodies_of p m ≡ Some b → Contains b.forms (form.Invoke kind k args) → (IsBound kind → ⊥)
      → IsMade p o unconditional t → finds_virtually p f t k ≡ Finds g → (is_within p t k.class ≡ true) ⊎ ((defines p k.class ≡ false) × (g.coded ≡ true → IsEnteredOn p o g.key))
  -- a class that stands under one of the program does so by the program's lists
  pub within : (t u : Text) → defines p t ≡ true → defines p u ≡ true → is_under p f t u ≡ true → is_within p t u ≡ true
  -- what the framework calls on a made object
  pub entered : (c n q t : Text) (g : Found) → declared_in p c n q ≡ Some g → defines p t ≡ true → IsMade p o unconditional t
      → is_under p f t g.key.class ≡ true → may_reach (face_of p f) o t g ≡ true → g.coded ≡ true
      → is_static g.flags ≡ false → IsEnteredOn p o g.key

pub record IsReady {V : Type 0} (a : Analysis V) (p : NamedProgram) (o : Outer) (f : Framework) (floats : Floats) (facts : Facts V) : Type 0 where
  pub regular : IsRegular p
  pub places : AllTakeInPlace p
  pub formed : (k : MethodKey) (b : NamedBody) (x : Form) → bodies_of p k ≡ Some b → Contains b.forms x → IsFormed x
  pub firsts : (k : FieldKey) (d : NamedField) → defined_field p k ≡ Some d → IsRanged (first_of k (place_of k.class d))
  pub reaches : Reaches p o f
  pub makes : (t : Text) → may_make (face_of p f) o t ≡ true → may_be_made p o t ≡ true
  pub sound : IsSoundOn a (is_under p f) floats
  pub closed : IsClosed a p o facts
