-- What the framework may reach, by tables of marks.
use Rattle.std.specs.Prelude.{◌≡◌, ◌<◌, ℕ, zero, suc, ◌&&◌, ◌||◌, not, Bool, false, List, [], ◌∷◌, length, flat_map, Option, Some, None, cond, nat_eq, nat_lt, slice_get, slice_index_or}
use Rattle.std.specs.List.{list_any}
use Rattle.class_defs.specs.Places.{above_places}
use Rattle.program_model.specs.declared.program.Class.{Class}
use Rattle.program_model.specs.declared.pools.MethodName.{MethodName}
use Rattle.program_model.specs.declared.program.Method.{Method}
use Rattle.program_model.specs.declared.program.MethodAt.{MethodAt}
use Rattle.program_model.specs.Lookups.{method_at}
use Rattle.class_defs.specs.Members.{own_virtual}
use Rattle.hierarchy.specs.Naming.{definers_of, IsKey}
use Rattle.dalvik_defs.specs.Names.{Text, text_eq, object_type, constructor_name, is_array}
use Rattle.dalvik_defs.specs.Naming.{text_at, type_at, named_class, named}
use Rattle.dalvik_defs.specs.Under.{defines, is_under, touches_framework}
use Rattle.dalvik_defs.specs.declared.tables.Framework.{Framework}
use Rattle.dalvik_defs.specs.declared.program.NamedProgram.{NamedProgram}
use Rattle.dalvik_lookups.specs.declared.types.Kind.{Kind}
use Rattle.dalvik_lookups.specs.declared.types.Types.{Types}
use Rattle.dalvik_lookups.specs.Views.{names_of, name_at}
use Rattle.dalvik_lookups.specs.declared.lookups.Lookups.{Lookups}
use Rattle.dalvik_lookups.specs.Tables.{kind_in, is_plain, IsRight}
use Rattle.program_model.specs.declared.pass.Outside.{Outside}
use Rattle.program_model.specs.declared.program.Program.{Program}
use Rattle.dalvik_lookups.specs.declared.outer.Outer.{Outer}

-- a number below so many is one of some
abbrev pub is_among : ℕ → List ℕ → ℕ → Bool
is_among count ns n = nat_lt n count && list_any (nat_eq n) ns

-- the marks of these numbers
pub record AreMarks (count : ℕ) (ns : List ℕ) (marks : List Bool) : Type 0 where
  pub is : (n : ℕ) → slice_index_or marks n false ≡ is_among count ns n

-- the marks of these numbers, over marks that were there
pub record MarksMore (old : List Bool) (ns : List ℕ) (new : List Bool) : Type 0 where
  pub size : length new ≡ length old
  pub is : (n : ℕ) → slice_index_or new n false ≡ (slice_index_or old n false || is_among (length old) ns n)

-- the marks of kept methods and fields, and of methods that no type of the framework declares
pub record IsOuter (p : Program) (o : Outside) (x : Outer) : Type 0 where
  pub methods : AreMarks (length p.methods) o.methods x.methods.items
  pub fields : AreMarks (length p.fields) o.fields x.fields.items
  pub shut : AreMarks (length p.methods) o.shut x.shut.items

-- ---- kept classes

-- a number of the table has a type with this number, which is no array
abbrev pub has_base : Program → List Kind → ℕ → ℕ → Bool
has_base p kinds base n = nat_lt n (length p.types) && is_plain base (kind_in kinds n)

-- the marks of the types of these numbers, by their own numbers
pub record AreBaseMarks (p : Program) (kinds : List Kind) (count : ℕ) (ns : List ℕ) (marks : List Bool) : Type 0 where
  pub size : length marks ≡ count
  pub is : (base : ℕ) → base < count → slice_index_or marks base false ≡ list_any (has_base p kinds base) ns

-- a number of the table has a type with this descriptor
abbrev pub has_descriptor : Program → Text → ℕ → Bool
has_descriptor p t n = nat_lt n (length p.types) && text_eq (type_at p n) t

-- the marks of the types of these numbers, by the numbers of their descriptors
pub record AreTypeMarks (p : Program) (t : Types) (ns : List ℕ) (marks : List Bool) : Type 0 where
  pub is : (n : ℕ) → n < length (names_of t) → is_array (name_at t n) ≡ false → slice_index_or marks n false ≡ list_any (has_descriptor p (name_at t n)) ns

-- ---- classes with kept constructors

-- the type that has a method, where that is a constructor
abbrev pub constructed_kind : Program → Option MethodName → List ℕ
constructed_kind p None = []
constructed_kind p (Some q) = cond (text_eq (text_at p q.name) constructor_name) (q.class ∷ []) []

-- the types of which these methods are constructors
abbrev pub constructed_kinds : Program → List ℕ → List ℕ
constructed_kinds p ns = flat_map (λ n. constructed_kind p (slice_get p.methods n)) ns

-- ---- kept virtual methods above a class

abbrev pub is_kept_of : Program → Outside → Option Method → Bool
is_kept_of p o None = false
is_kept_of p o (Some m) = is_among (length p.methods) o.methods m.name

abbrev pub is_kept_at : Program → Outside → Option MethodAt → Bool
is_kept_at p o None = false
is_kept_at p o (Some at) = is_kept_of p o (method_at p at)

-- the class at a place has a kept virtual method of a name and a proto
abbrev pub keeps_virtual : Program → Outside → ℕ → ℕ → ℕ → Bool
keeps_virtual p o name proto c = is_kept_at p o (own_virtual p name proto c)

abbrev pub text_of_class : Program → Option Class → Text
text_of_class p None = []
text_of_class p (Some k) = type_at p k.name

-- and a type stands under it
abbrev pub keeps_over : Program → Framework → Outside → ℕ → ℕ → Text → ℕ → Bool
keeps_over p f o name proto t c = keeps_virtual p o name proto c && is_under (named p) f t (text_of_class p (slice_get p.classes c))

-- the tables are right, and a key is that of a name and a proto
pub record KnowsKey (l : Lookups) (o : Outside) (key name proto : ℕ) : Type 0 where
  pub right : IsRight l
  pub outer : IsOuter l.program.now o l.outer
  pub key_is : IsKey l.program.now l.hierarchy key name proto

-- a type stands under a class with such a method
abbrev pub has_keeper : Program → Framework → Outside → ℕ → ℕ → Text → Bool
has_keeper p f o name proto t = list_any (keeps_over p f o name proto t) (definers_of p name proto)

-- ---- classes under the framework

-- a type that the program doesn't define, other than Object
abbrev pub is_framework_type : NamedProgram → Text → Bool
is_framework_type p t = not (defines p t) && not (text_eq t object_type)

-- one stands directly above a class
abbrev pub touches : Program → Option Class → Bool
touches p None = false
touches p (Some k) = touches_framework (named p) (named_class p k)

abbrev pub touches_at : Program → ℕ → Bool
touches_at p c = touches p (slice_get p.classes c)

-- one stands above a class, at most so many steps up
abbrev pub reaches_framework : ℕ → Program → ℕ → Bool
reaches_framework zero p c = false
reaches_framework (suc n) p c = touches_at p c || list_any (reaches_framework n p) (above_places p c)
