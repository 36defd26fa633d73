-- The classes in the descriptors of members that are marked.
use Rattle.std.specs.Prelude.{◌≡◌, ◌<◌, ℕ, Bool, false, ◌&&◌, ◌||◌, List, ◌∷◌, Option, Some, None, length, nat_eq, slice_get}
use Rattle.std.specs.List.{list_any}
use Rattle.program_model.specs.declared.pools.Proto.{Proto}
use Rattle.program_model.specs.declared.program.Class.{Class}
use Rattle.program_model.specs.declared.program.Program.{Program}
use Rattle.dalvik_defs.specs.Names.{Text, text_eq, base_of}
use Rattle.dalvik_defs.specs.Naming.{type_at, named}
use Rattle.dalvik_defs.specs.Under.{defines}
use Rattle.keep_rules.specs.Marks.{is_on}
use Rattle.keep_rules.specs.Table.{has}

-- whether a descriptor is that of a class of the program, this one
abbrev pub is_class_named : Program → ℕ → Text → Bool
is_class_named p n t = defines (named p) (type_at p n) && text_eq t (type_at p n)

-- the class of a descriptor, if it is one of the program's
abbrev pub IsClassOf : Program → Text → Option ℕ → Type 0
IsClassOf p t (Some m) = (n : ℕ) → n < length p.types → is_class_named p n t ≡ nat_eq n m
IsClassOf p t None = (n : ℕ) → n < length p.types → is_class_named p n t ≡ false

-- whether a type is this class, or an array of it
abbrev pub names_class : Program → ℕ → ℕ → Bool
names_class p n kind = is_class_named p n (base_of (type_at p kind))

abbrev pub proto_names : Program → ℕ → Option Proto → Bool
proto_names p n None = false
proto_names p n (Some q) = list_any (names_class p n) (q.result ∷ q.parameters)

-- whether the descriptor of the method with a number names the class, and that of a field
abbrev pub method_names : Program → ℕ → ℕ → Bool
method_names p n m = elim (slice_get p.methods m) [ Some name ↦ proto_names p n (slice_get p.protos name.proto) | None ↦ false ]

abbrev pub field_names : Program → ℕ → ℕ → Bool
field_names p n f = elim (slice_get p.fields f) [ Some name ↦ names_class p n name.kind | None ↦ false ]

-- whether the descriptor of a marked member of a class does
abbrev pub fields_name : Program → List Bool → Class → ℕ → Bool
fields_name p fields c n = list_any (λ f. is_on fields f.name && field_names p n f.name) c.fields

abbrev pub methods_name : Program → List Bool → Class → ℕ → Bool
methods_name p methods c n = list_any (λ m. is_on methods m.name && method_names p n m.name) c.methods

abbrev pub class_names : Program → List Bool → List Bool → Class → ℕ → Bool
class_names p fields methods c n = fields_name p fields c n || methods_name p methods c n

-- the list has what it had and the types of the program that pass the test
pub record Listed (p : Program) (test : ℕ → Bool) (old new : List ℕ) : Type 0 where
  pub is : (n : ℕ) → n < length p.types → has new n ≡ (has old n || test n)

-- the same where a part is still to come
pub record ListsLeft (p : Program) (rest all : ℕ → Bool) (old new : List ℕ) : Type 0 where
  pub is : (n : ℕ) → n < length p.types → (has new n || rest n) ≡ (has old n || all n)

-- ---- pairs of a class and of the one in whose descriptors it stands

abbrev pub has_both : List (ℕ × ℕ) → ℕ → ℕ → Bool
has_both pairs n k = list_any (λ pair. nat_eq n pair.0 && nat_eq k pair.1) pairs

pub record Pairs (p : Program) (test : ℕ → ℕ → Bool) (old new : List (ℕ × ℕ)) : Type 0 where
  pub are : (n k : ℕ) → n < length p.types → has_both new n k ≡ (has_both old n k || test n k)

pub record PairsLeft (p : Program) (rest all : ℕ → ℕ → Bool) (old new : List (ℕ × ℕ)) : Type 0 where
  pub are : (n k : ℕ) → n < length p.types → (has_both new n k || rest n k) ≡ (has_both old n k || all n k)
