-- What the classes of a program and their members name, by old and by new numbers.
use Rattle.std.specs.Prelude.{◌≡◌, map, Some}
use Rattle.std.specs.Option.{option_map}
use Rattle.std.specs.List.{AllByRecursion}
use Rattle.dex_pools.specs.declared.interner.Interner.{Interner}
use Rattle.program_model.specs.declared.program.Field.{Field}
use Rattle.program_model.specs.declared.program.Method.{Method}
use Rattle.program_model.specs.declared.program.Class.{Class}
use Rattle.program_model.specs.declared.program.Program.{Program}
use Rattle.program_model.specs.declared.value.EncValue.{EncValue, EncValue-F, roll-EncValue}
use Rattle.program_model.specs.declared.value.EncValue.TheOpen as layer
use Rattle.program_model.specs.declared.value.Element.{Element}
use Rattle.program_model.specs.declared.value.Note.{Note}
use Rattle.dalvik_defs.specs.Naming.{text_at, type_at, field_at, method_at, value_of, body_of}
use Rattle.dex_defs.specs.Written.{new_string, new_type, new_field, new_method, new_value, new_body}

-- a value in which no other value and no annotation lies
abbrev pub IsPlain : EncValue-F EncValue Element Note → Type 0
IsPlain (layer.Array values) = ⊥
IsPlain (layer.Annotation note) = ⊥
IsPlain _ = Unit {0}

pub record KeepsField (p : Program) (i : Interner) (q : Program) (f : Field) : Type 0 where
  pub name : field_at q (new_field i.numbers f.name) ≡ field_at p f.name
  pub first : (x : EncValue-F EncValue Element Note) → f.first ≡ Some (roll-EncValue x) → IsPlain x → option_map (value_of q) (option_map (new_value i.numbers) f.first) ≡ option_map (value_of p) f.first

pub record KeepsMethod (p : Program) (i : Interner) (q : Program) (m : Method) : Type 0 where
  pub name : method_at q (new_method i.numbers m.name) ≡ method_at p m.name
  pub code : option_map (body_of q) (option_map (new_body i.numbers) m.body) ≡ option_map (body_of p) m.body

-- each member of a class, and the class itself
pub record KeepsClass (p : Program) (i : Interner) (q : Program) (c : Class) : Type 0 where
  pub name : type_at q (new_type i.numbers c.name) ≡ type_at p c.name
  pub superclass : type_at q (new_type i.numbers c.superclass) ≡ type_at p c.superclass
  pub interfaces : map (type_at q) (map (new_type i.numbers) c.interfaces) ≡ map (type_at p) c.interfaces
  pub source : option_map (text_at q) (option_map (new_string i.numbers) c.source) ≡ option_map (text_at p) c.source
  pub fields : AllByRecursion (KeepsField p i q) c.fields
  pub methods : AllByRecursion (KeepsMethod p i q) c.methods
