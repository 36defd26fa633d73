-- What the machine asks of a program: its face is all but the bodies. Two programs that differ in bodies alone have one
-- face, and the machine knows a program by its face and its bodies only.
use Rattle.std.specs.Prelude.{ℕ, Bool, true, false, ◌&&◌, not, List, [], Option, Some, None, find, is_some}
use Rattle.std.specs.Option.{option_map, option_and_then}
use Rattle.dalvik_defs.specs.Names.{Text, text_eq, proto_text}
use Rattle.dalvik_defs.specs.Flags.{is_interface, is_abstract}
use Rattle.dalvik_defs.specs.Under.{class_named, is_under, is_outward}
use Rattle.dalvik_defs.specs.Find.{Found, found_in, Search, defined_method, finds_statically, finds_at, finds_super, finds_field, defined_field}
use Rattle.dalvik_defs.specs.Initialised.{initialiser_of, initialised_first, is_trivial}
use Rattle.dalvik_defs.specs.declared.names.MethodKey.{MethodKey}
use Rattle.dalvik_defs.specs.declared.names.FieldKey.{FieldKey}
use Rattle.dalvik_defs.specs.declared.encoded.NamedValue.{NamedValue}
use Rattle.dalvik_defs.specs.declared.program.NamedBody.{NamedBody}
use Rattle.dalvik_defs.specs.declared.program.NamedField.{NamedField}
use Rattle.dalvik_defs.specs.declared.program.NamedProgram.{NamedProgram}
use Rattle.dalvik_defs.specs.declared.tables.Framework.{Framework}

-- a field that was found: by the class that defines it, its flags, and its first value
pub record Place : Type 0 where
  pub class : Text
  pub flags : ℕ
  pub first : Option NamedValue

pub record Face : Type 0 where
  -- the flags of a class that the program defines
  pub flags : Text → Option ℕ
  -- whether a type is under another, and whether a class has a framework ancestor other than Object
  pub under : Text → Text → Bool
  pub outward : Text → Bool
  -- what a static or direct call finds, a super call from a class, and a virtual or interface call at a receiver's class
  pub statically : MethodKey → Search
  pub above : Text → MethodKey → Search
  pub virtually : Text → MethodKey → Search
  -- the method that a class itself defines, by its name and the text of its proto
  pub declared : Text → Text → Text → Option Found
  -- the field that a name resolves to, and the one that a class itself defines
  pub field : FieldKey → Option Place
  pub own_field : FieldKey → Option Place
  -- a class's initialiser, the classes that are initialised before it, and whether all this does nothing
  pub initialiser : Text → Option MethodKey
  pub first : Text → List Text
  pub trivial : Text → Bool

-- the bodies
abbrev pub Bodies : Type 0
Bodies = MethodKey → Option NamedBody

abbrev pub place_of : Text → NamedField → Place
place_of t f = record { class = t; flags = f.flags; first = f.first }

abbrev pub declared_in : NamedProgram → Text → Text → Text → Option Found
declared_in p t n q = elim (class_named p t) [
  | Some c ↦ option_map (found_in c) (find (λ m. text_eq m.name n && text_eq (proto_text m.signature) q) c.methods)
  | None ↦ None
]

abbrev pub finds_virtually : NamedProgram → Framework → Text → MethodKey → Search
finds_virtually p f t k = elim (is_some (class_named p t) && is_under p f t k.class) [ true ↦ finds_at p t k | false ↦ Search.Nothing ]

abbrev pub face_of : NamedProgram → Framework → Face
face_of p f = record {
  flags = λ t. option_map (λ c. c.flags) (class_named p t);
  under = is_under p f;
  outward = is_outward p;
  statically = finds_statically p;
  above = finds_super p;
  virtually = finds_virtually p f;
  declared = declared_in p;
  field = λ k. option_map (λ c. place_of c.0 c.1) (finds_field p k);
  own_field = λ k. option_map (place_of k.class) (defined_field p k);
  initialiser = initialiser_of p;
  first = initialised_first p;
  trivial = is_trivial p;
}

abbrev pub bodies_of : NamedProgram → Bodies
bodies_of p = λ k. option_and_then (λ m. m.body) (defined_method p k)

-- what the face says of a class
abbrev pub is_defined : Face → Text → Bool
is_defined face t = is_some (face.flags t)

-- a program class that is no interface
abbrev pub is_plain_class : Face → Text → Bool
is_plain_class face t = elim (face.flags t) [ Some n ↦ not (is_interface n) | None ↦ false ]

-- a program class that can have objects
abbrev pub is_concrete : Face → Text → Bool
is_concrete face t = elim (face.flags t) [ Some n ↦ not (is_interface n) && not (is_abstract n) | None ↦ false ]
