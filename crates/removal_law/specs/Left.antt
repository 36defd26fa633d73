-- What is left of a program when all that is outside of some sets is removed.
use Rattle.std.specs.Prelude.{◌≡◌, false, List, ◌∷◌, ◌++◌, map, filter}
use Rattle.std.specs.List.{list_any}
use Rattle.dalvik_defs.specs.Names.{Text, object_type}
use Rattle.dalvik_defs.specs.Known.{known_rows}
use Rattle.dalvik_defs.specs.Under.{defines}
use Rattle.dalvik_defs.specs.Shown.{named_by}
use Rattle.dalvik_defs.specs.declared.tables.FrameworkType.{FrameworkType}
use Rattle.dalvik_defs.specs.declared.tables.Framework.{Framework}
use Rattle.dalvik_defs.specs.Silence.{key_in}
use Rattle.dalvik_defs.specs.declared.names.FieldKey.{FieldKey}
use Rattle.dalvik_defs.specs.declared.program.NamedField.{NamedField}
use Rattle.dalvik_defs.specs.declared.program.NamedClass.{NamedClass}
use Rattle.dalvik_defs.specs.declared.program.NamedProgram.{NamedProgram}
use Rattle.pass_defs.specs.Live.{Family}

abbrev pub field_key : Text → NamedField → FieldKey
field_key t f = record { class = t; name = f.name; kind = f.kind }

-- a class with its live members
abbrev pub left_in : Family → NamedClass → NamedClass
left_in s c = record c { fields = filter (λ f. s.fields (field_key c.name f)) c.fields; methods = filter (λ m. s.methods (key_in c m)) c.methods }

-- the live classes with their live members
abbrev pub left_of : Family → NamedProgram → NamedProgram
left_of s p = record p { classes = map (left_in s) (filter (λ c. s.classes c.name) p.classes) }

-- something stands in a list
pub data In {A : Type 0} (x : A) : List A → Type 0 where
  here : (xs : List A) → In x (x ∷ xs)
  there : (y : A) (xs : List A) → In x xs → In x (y ∷ xs)

-- no row of a framework, nor any that the machine itself knows, has or names a class of a program
pub record NamesNone (p : NamedProgram) (f : Framework) : Type 0 where
  pub rows : (r : FrameworkType) → In r (known_rows ++ f.rows) → list_any (defines p) (named_by r) ≡ false
  pub object : defines p object_type ≡ false
