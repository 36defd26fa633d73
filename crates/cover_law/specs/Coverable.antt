-- What is asked of a program, a table of facts and a framework: the program is typed and regular, its code is formed as
-- that of a file is, the analysis is sound, and the table is closed (Dalvik bytecode, "move-result"; Dalvik executable
-- format, "code_item"; this project's profile).
use Rattle.std.specs.Prelude.{◌≡◌, ◌||◌, Bool, ◌<◌, ◌^◌, true, Some, length, Contains}
use Rattle.std.specs.Int.{w32, cast_unsigned}
use Rattle.dalvik_defs.specs.Names.{Text, is_word, is_wide, is_reference}
use Rattle.dalvik_defs.specs.Under.{is_under}
use Rattle.dalvik_defs.specs.Find.{defined_field}
use Rattle.dalvik_defs.specs.Face.{face_of, bodies_of, place_of}
use Rattle.dalvik_defs.specs.Fields.{first_of}
use Rattle.dalvik_defs.specs.Legal.{may_make}
use Rattle.dalvik_defs.specs.Outer.{Outer}
use Rattle.dalvik_defs.specs.declared.forms.Form.{Form}
use Rattle.dalvik_defs.specs.declared.forms.Form.TheVariants as form
use Rattle.dalvik_defs.specs.declared.names.FieldKey.{FieldKey}
use Rattle.dalvik_defs.specs.declared.names.MethodKey.{MethodKey}
use Rattle.dalvik_defs.specs.declared.program.NamedBody.{NamedBody}
use Rattle.dalvik_defs.specs.declared.program.NamedField.{NamedField}
use Rattle.dalvik_defs.specs.declared.program.NamedProgram.{NamedProgram}
use Rattle.dalvik_defs.specs.declared.tables.Floats.{Floats}
use Rattle.dalvik_defs.specs.declared.tables.Framework.{Framework}
use Rattle.pass_defs.specs.Analysis.{Analysis, IsRanged}
use Rattle.run_facts.specs.Closed.{IsClosed}
use Rattle.pass_defs.specs.Facts.{Facts, may_be_made}
use Rattle.removal_law.specs.Reach.{IsAcyclic, IsDescribed, IsSoundTable}
use Rattle.program_laws.specs.Results.{AllTakeInPlace}
use Rattle.run_laws.specs.Regular.{IsRegular}
use Rattle.cover_law.specs.Sound.{AreSmall, IsSmall, IsSoundOn}

-- a type that values have
abbrev pub has_values : Text → Bool
has_values t = is_word t || is_wide t || is_reference t

-- The numbers of a form have 32 bits, also with a sign those of a literal and of keys, it makes no array of 2^31 items, and a field that it writes has a type of values.
abbrev pub IsFormed : Form → Type 0
IsFormed (form.Const to value) = cast_unsigned w32 value < 2 ^ 32
IsFormed (form.Literal op to r value) = IsSmall value
IsFormed (form.SparseSwitch on keys targets) = AreSmall keys
IsFormed (form.PackedSwitch on first targets) = cast_unsigned w32 first < 2 ^ 32
IsFormed (form.FilledNewArray kind args) = length args < 2 ^ 31
IsFormed (form.InstancePut item from on field) = has_values field.kind ≡ true
IsFormed (form.StaticPut item from field) = has_values field.kind ≡ true
IsFormed x = Unit {0}

-- A table of facts is closed, of a program that is so and a framework.
pub record IsTabled {V : Type 0} (a : Analysis V) (p : NamedProgram) (o : Outer) (f : Framework) (facts : Facts V) : Type 0 where
  pub regular : IsRegular p
  -- no class stands above itself, and the parameters of methods are descriptors
  pub acyclic : IsAcyclic p
  pub described : IsDescribed p
  -- the parts of the table of what the framework may reach agree
  pub table : IsSoundTable p o
  -- only what gives a result goes on to what takes one, and no handler does
  pub places : AllTakeInPlace p
  pub formed : (k : MethodKey) (b : NamedBody) (x : Form) → bodies_of p k ≡ Some b → Contains b.forms x → IsFormed x
  -- a word that a field begins with has 32 bits
  pub firsts : (k : FieldKey) (d : NamedField) → defined_field p k ≡ Some d → IsRanged (first_of k (place_of k.class d))
  -- what the framework makes is a class that is kept or has a kept constructor
  pub makes : (t : Text) → may_make (face_of p f) o t ≡ true → may_be_made p o t ≡ true
  pub closed : IsClosed a p o facts

-- And the analysis is sound.
pub record IsCoverable {V : Type 0} (a : Analysis V) (p : NamedProgram) (o : Outer) (f : Framework) (floats : Floats) (facts : Facts V) : Type 0 where
  pub tabled : IsTabled a p o f facts
  pub sound : IsSoundOn a (is_under p f) floats
