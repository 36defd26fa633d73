-- What numbers and places name.
use Rattle.std.specs.Prelude.{ℕ, List, [], ◌∷◌, Option, Some, None, slice_get}
use Rattle.std.specs.Option.{option_map}
use Rattle.program_model.specs.declared.program.Method.{Method}
use Rattle.program_model.specs.declared.program.Field.{Field}
use Rattle.program_model.specs.declared.program.MethodAt.{MethodAt}
use Rattle.program_model.specs.declared.program.Class.{Class}
use Rattle.program_model.specs.declared.program.Program.{Program}
use Rattle.class_defs.specs.Finding.{Search}
use Rattle.dalvik_defs.specs.Find as name
use Rattle.dalvik_defs.specs.Names.{Text}
use Rattle.dalvik_defs.specs.Find.{Found, found_in}
use Rattle.dalvik_defs.specs.Naming.{type_at, named_class, named_method, named_field}
use Rattle.dalvik_defs.specs.declared.program.NamedField.{NamedField}
use Rattle.dalvik_defs.specs.declared.program.NamedClass.{NamedClass}

-- the class at a place, by names
abbrev pub class_at : Program → ℕ → Option NamedClass
class_at p c = option_map (named_class p) (slice_get p.classes c)

-- the classes at some places
abbrev pub with_class : Program → Option Class → List NamedClass → List NamedClass
with_class p None cs = cs
with_class p (Some k) cs = named_class p k ∷ cs

abbrev pub classes_at : Program → List ℕ → List NamedClass
classes_at p [] = []
classes_at p (c ∷ cs) = with_class p (slice_get p.classes c) (classes_at p cs)

-- the method at a place, by its class and by itself
abbrev pub found_there : Program → Class → Option Method → Option Found
found_there p k None = None
found_there p k (Some m) = Some (found_in (named_class p k) (named_method p m))

abbrev pub found_of : Program → ℕ → Option Class → Option Found
found_of p place None = None
found_of p place (Some k) = found_there p k (slice_get k.methods place)

abbrev pub found_at : Program → MethodAt → Option Found
found_at p at = found_of p at.place (slice_get p.classes at.class)

abbrev pub with_found : Option Found → List Found → List Found
with_found None fs = fs
with_found (Some f) fs = f ∷ fs

-- the methods at some places
abbrev pub founds_at : Program → List MethodAt → List Found
founds_at p [] = []
founds_at p (at ∷ ats) = with_found (found_at p at) (founds_at p ats)

-- what a look-up by number answers, by names
abbrev pub finds : Option Found → name.Search
finds None = name.Search.Nothing
finds (Some f) = name.Search.Finds f

abbrev pub search_at : Program → Search → name.Search
search_at p Search.Nothing = name.Search.Nothing
search_at p Search.Clash = name.Search.Clash
search_at p (Search.Finds at) = finds (found_at p at)

-- the field at a place, by the name of its class and by itself
abbrev pub field_there : Program → Class → Option Field → Option (Text × NamedField)
field_there p k None = None
field_there p k (Some f) = Some (type_at p k.name, named_field p f)

abbrev pub field_of : Program → ℕ → Option Class → Option (Text × NamedField)
field_of p place None = None
field_of p place (Some k) = field_there p k (slice_get k.fields place)

abbrev pub field_at_place : Program → ℕ × ℕ → Option (Text × NamedField)
field_at_place p at = field_of p at.1 (slice_get p.classes at.0)

-- the name of the class at a place
abbrev pub name_at : Program → ℕ → Option Text
name_at p c = option_map (λ k. type_at p k.name) (slice_get p.classes c)
