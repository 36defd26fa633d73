-- What the laws of this crate say of marks, and ask of them, beside what reach says of marked programs.
use Rattle.std.specs.Prelude.{◌≡◌, ℕ, true, Some, is_some, slice_get}
use Rattle.program_model.specs.declared.pools.FieldName.{FieldName}
use Rattle.program_model.specs.declared.pools.MethodName.{MethodName}
use Rattle.program_model.specs.declared.program.Program.{Program}
use Rattle.call_graph.specs.declared.live_set.LiveSet.{LiveSet}
use Rattle.call_graph.specs.Follows.{class_of}
use Rattle.reach.specs.Kept.{is_marked}
use Rattle.dalvik_defs.specs.Under.{defines}
use Rattle.dalvik_defs.specs.declared.names.MethodKey.{MethodKey}
use Rattle.dalvik_defs.specs.declared.names.FieldKey.{FieldKey}
use Rattle.dalvik_defs.specs.declared.program.NamedProgram.{NamedProgram}
use Rattle.pass_defs.specs.Live.{Family}

-- ---- premises

-- The class of each marked member is one of the program. Marks that are closed need not say so.
pub record AreDefined (p : Program) (s : LiveSet) : Type 0 where
  pub fields : (n : ℕ) (q : FieldName) → is_marked s.fields.items n ≡ true → slice_get p.fields n ≡ Some q → is_some (class_of p q.class) ≡ true
  pub methods : (n : ℕ) (q : MethodName) → is_marked s.methods.items n ≡ true → slice_get p.methods n ≡ Some q → is_some (class_of p q.class) ≡ true

-- ---- what the laws say beside the records of a closed family

-- the class of a live member is live, where the program defines it
pub record KeepsOwners (p : NamedProgram) (s : Family) : Type 0 where
  pub fields : (f : FieldKey) → s.fields f ≡ true → defines p f.class ≡ true → s.classes f.class ≡ true
  pub methods : (m : MethodKey) → s.methods m ≡ true → defines p m.class ≡ true → s.classes m.class ≡ true
