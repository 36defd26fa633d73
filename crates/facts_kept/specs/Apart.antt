-- What the law of coverage asks, the table of facts apart.
use Rattle.std.specs.Prelude.{◌≡◌, true, Some, is_some, Contains}
use Rattle.dalvik_defs.specs.Names.{Text}
use Rattle.dalvik_defs.specs.Find.{defined_field, defined_method}
use Rattle.dalvik_defs.specs.Face.{face_of, bodies_of, place_of}
use Rattle.dalvik_defs.specs.Fields.{first_of}
use Rattle.dalvik_defs.specs.Legal.{may_make}
use Rattle.dalvik_defs.specs.Outer.{Outer}
use Rattle.dalvik_defs.specs.declared.forms.Form.{Form}
use Rattle.dalvik_defs.specs.declared.names.FieldKey.{FieldKey}
use Rattle.dalvik_defs.specs.declared.names.MethodKey.{MethodKey}
use Rattle.dalvik_defs.specs.declared.program.NamedBody.{NamedBody}
use Rattle.dalvik_defs.specs.declared.program.NamedField.{NamedField}
use Rattle.dalvik_defs.specs.declared.program.NamedProgram.{NamedProgram}
use Rattle.dalvik_defs.specs.declared.tables.Framework.{Framework}
use Rattle.pass_defs.specs.Analysis.{IsRanged}
use Rattle.pass_defs.specs.Facts.{may_be_made}
use Rattle.pass_defs.specs.Live.{is_concrete, is_constructor}
use Rattle.removal_law.specs.Reach.{IsAcyclic, IsDescribed, IsSoundTable}
use Rattle.program_laws.specs.Results.{AllTakeInPlace}
use Rattle.run_laws.specs.Regular.{IsRegular}
use Rattle.cover_law.specs.Coverable.{IsFormed}

-- A kept constructor of a class that can have objects is one that the class defines. Without this the framework may make an
-- object of a class by a constructor that isn't there.
abbrev pub ConstructsByOwn : NamedProgram → Outer → Type 0
ConstructsByOwn p o = (k : MethodKey) → o.methods k ≡ true → is_constructor k ≡ true → is_concrete p k.class ≡ true → is_some (defined_method p k) ≡ true

-- all that `IsTabled` of cover_law asks but a closed table
pub record IsTabledApart (p : NamedProgram) (o : Outer) (f : Framework) : Type 0 where
  pub regular : IsRegular p
  pub acyclic : IsAcyclic p
  pub described : IsDescribed p
  pub table : IsSoundTable p o
  pub places : AllTakeInPlace p
  pub formed : (k : MethodKey) (b : NamedBody) (x : Form) → bodies_of p k ≡ Some b → Contains b.forms x → IsFormed x
  pub firsts : (k : FieldKey) (d : NamedField) → defined_field p k ≡ Some d → IsRanged (first_of k (place_of k.class d))
  pub makes : (t : Text) → may_make (face_of p f) o t ≡ true → may_be_made p o t ≡ true
