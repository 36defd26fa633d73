-- What is asked of a program: each body has a typing, and its classes, their members and the code are formed as those of a
-- file are (Dalvik executable format, "class_def_item", "encoded_value", "code_item").
use Rattle.std.specs.Prelude.{◌≡◌, ℕ, ◌+◌, Bool, true, false, not, if◌then◌else◌, Some, Contains, ◌∷◌}
use Rattle.dalvik_defs.specs.Names.{Text, is_class_type, is_void, is_word, is_wide, is_reference}
use Rattle.dalvik_defs.specs.Flags.{is_static, is_interface}
use Rattle.dalvik_defs.specs.Under.{class_named, defines}
use Rattle.dalvik_defs.specs.Find.{defined_method}
use Rattle.dalvik_defs.specs.Fields.{first_value}
use Rattle.dalvik_defs.specs.Silence.{key_in}
use Rattle.dalvik_defs.specs.declared.encoded.NamedValue.{NamedValue}
use Rattle.dalvik_defs.specs.declared.forms.Form.{Form}
use Rattle.dalvik_defs.specs.declared.forms.Form.TheVariants as form
use Rattle.dalvik_defs.specs.declared.state.Value.{Value}
use Rattle.dalvik_defs.specs.declared.state.Value.TheVariants.{Word, Low, Literal, Class}
use Rattle.dalvik_defs.specs.declared.program.NamedBody.{NamedBody}
use Rattle.dalvik_defs.specs.declared.program.NamedClass.{NamedClass}
use Rattle.dalvik_defs.specs.declared.program.NamedField.{NamedField}
use Rattle.dalvik_defs.specs.declared.program.NamedMethod.{NamedMethod}
use Rattle.dalvik_defs.specs.declared.program.NamedProgram.{NamedProgram}
use Rattle.pass_defs.specs.Kinds.{is_plain}
use Rattle.pass_defs.specs.Typed.{IsTyped, words_of}
use Rattle.run_laws.specs.Holds.{Each}

-- the registers that a method's arguments take: one for the receiver, and those of its parameters
abbrev pub taken : NamedMethod → ℕ
taken m = (if is_static m.flags then 0 else 1) + words_of m.signature.parameters

-- a form that reads a field names one of a type of values
abbrev pub reads_value : Form → Bool
reads_value (form.InstanceGet item to on field) = not (is_void field.kind)
reads_value (form.StaticGet item to field) = not (is_void field.kind)
reads_value x = true

-- a word is the first value of a type of words, a wide that of one of wides, a text or a type that of any reference
abbrev pub suits : Text → Value → Bool
suits t (Word n) = is_word t
suits t (Low n) = is_wide t
suits t (Literal s) = is_reference t
suits t (Class s) = is_reference t
suits t v = false

-- no class that is no interface stands directly above an interface
abbrev pub InterfacesStandFree : NamedProgram → Type 0
InterfacesStandFree p = (t : Text) (c : NamedClass) → class_named p t ≡ Some c → is_interface c.flags ≡ true → Each (λ u. is_plain p u ≡ false) (c.superclass ∷ c.interfaces)

pub record IsRegular (p : NamedProgram) : Type 0 where
  -- each body has a typing
  pub typed : IsTyped p
  -- classes have distinct names, which are class types, and the methods of a class have distinct names and signatures
  pub named : (c : NamedClass) → Contains p.classes c → class_named p c.name ≡ Some c
  pub class_types : (t : Text) → defines p t ≡ true → is_class_type t ≡ true
  pub methods : (c : NamedClass) (m : NamedMethod) → Contains p.classes c → Contains c.methods m → defined_method p (key_in c m) ≡ Some m
  pub above_interfaces : InterfacesStandFree p
  -- a first value suits the type of its field
  pub firsts : (c : NamedClass) (g : NamedField) (v : NamedValue) → Contains p.classes c → Contains c.fields g → g.first ≡ Some v → suits g.kind (first_value v) ≡ true
  -- a body takes as many registers as the arguments of its method, and no field that it reads is of type void
  pub entries : (c : NamedClass) (m : NamedMethod) (b : NamedBody) → Contains p.classes c → Contains c.methods m → m.body ≡ Some b → b.ins ≡ taken m
  pub reads : (c : NamedClass) (m : NamedMethod) (b : NamedBody) (x : Form) → Contains p.classes c → Contains c.methods m → m.body ≡ Some b → Contains b.forms x → reads_value x ≡ true
