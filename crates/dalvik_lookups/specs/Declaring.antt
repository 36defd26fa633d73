-- The members that classes define themselves, by their names, and how they are found by numbers.
use Rattle.std.specs.Prelude.{◌≡◌, ◌<◌, ◌^◌, ◌&&◌, ℕ, Bool, List, [], map, length, Option, Some, None, nat_eq, position, slice_get, option_and_then, cond}
use Rattle.std.specs.Option.{option_map}
use Rattle.indexmap.specs.IndexMap.{get}
use Rattle.program_model.specs.declared.program.Field.{Field}
use Rattle.program_model.specs.declared.program.Method.{Method}
use Rattle.program_model.specs.declared.program.MethodAt.{MethodAt}
use Rattle.program_model.specs.declared.program.Class.{Class}
use Rattle.program_model.specs.declared.program.Program.{Program}
use Rattle.dalvik_defs.specs.Names.{Text, text_eq, proto_text}
use Rattle.dalvik_defs.specs.Naming.{method_at, field_at, signature_at}
use Rattle.dalvik_lookups.specs.declared.types.Kind.{Kind}
use Rattle.dalvik_lookups.specs.declared.declared.Index.{Index}
use Rattle.dalvik_lookups.specs.declared.declared.Spellings.{Spellings}
use Rattle.dalvik_lookups.specs.declared.declared.Declared.{Declared}
use Rattle.dalvik_lookups.specs.Tables.{kind_in, string_in, place_named}
use Rattle.dalvik_lookups.specs.Views.{StandOnce, Stays}

-- ---- by names

-- a method has this name, and its proto is spelled so
abbrev pub is_called : Program → Text → Text → Method → Bool
is_called p n q m = text_eq (method_at p m.name).name n && text_eq (proto_text (method_at p m.name).signature) q

-- a field has this name and this type
abbrev pub is_typed : Program → Text → Text → Field → Bool
is_typed p n k f = text_eq (field_at p f.name).name n && text_eq (field_at p f.name).kind k

abbrev pub methods_in : Option Class → List Method
methods_in None = []
methods_in (Some k) = k.methods

abbrev pub fields_in : Option Class → List Field
fields_in None = []
fields_in (Some k) = k.fields

-- the place of the first such method among those of the class at a place, and that of the first such field
abbrev pub method_place : Program → ℕ → Text → Text → Option ℕ
method_place p c n q = position (is_called p n q) (methods_in (slice_get p.classes c))

abbrev pub field_place : Program → ℕ → Text → Text → Option ℕ
field_place p c n k = position (is_typed p n k) (fields_in (slice_get p.classes c))

abbrev pub method_of : ℕ → ℕ → MethodAt
method_of c place = record { class = c; place = place }

-- the method and the field that the class of a name defines itself
abbrev pub declared_method : Program → Text → Text → Text → Option MethodAt
declared_method p t n q = option_and_then (λ c. option_map (method_of c) (method_place p c n q)) (place_named p t)

abbrev pub declared_field : Program → Text → Text → Text → Option (ℕ × ℕ)
declared_field p t n k = option_and_then (λ c. option_map (λ place. (c, place)) (field_place p c n k)) (place_named p t)

-- ---- by numbers

abbrev pub Key : Type 0
Key = ℕ × (ℕ × ℕ)

abbrev pub same_key : Key → Key → Bool
same_key a b = nat_eq a.0 b.0 && (nat_eq a.1.0 b.1.0 && nat_eq a.1.1 b.1.1)

abbrev pub same_entry : ℕ × Key → ℕ × Key → Bool
same_entry a b = nat_eq a.0 b.0 && same_key a.1 b.1

abbrev pub no_key : Key
no_key = (18446744073709551615, (18446744073709551615, 18446744073709551615))

-- A method is found by the numbers of its name and of what its proto spells, a field by those of its name and its type.
abbrev pub method_key : Program → List ℕ → List ℕ → Method → Key
method_key p strings protos m = elim (slice_get p.methods m.name) [ Some q ↦ (string_in strings q.name, (0, string_in protos q.proto)) | None ↦ no_key ]

abbrev pub field_key : Program → List ℕ → List Kind → Field → Key
field_key p strings kinds f = elim (slice_get p.fields f.name) [ Some q ↦ (string_in strings q.name, ((kind_in kinds q.kind).depth, (kind_in kinds q.kind).base)) | None ↦ no_key ]

-- the place that an index has for a class and a key
abbrev pub found_in : Index → ℕ → Key → Option ℕ
found_in index class key = get same_entry index.places (class, key)

-- the place for this class and this key alone
abbrev pub one_at : ℕ → Key → ℕ → ℕ → Key → Option ℕ
one_at class key place c k = cond (same_entry (class, key) (c, k)) (Some place) None

abbrev pub place_in : List Key → Key → Option ℕ
place_in row k = position (λ x. same_key x k) row

-- the first place with the key in the row of this class alone
abbrev pub index_of_row : ℕ → List Key → ℕ → Key → Option ℕ
index_of_row class row c k = cond (nat_eq class c) (place_in row k) None

abbrev pub place_in_rows : List (List Key) → ℕ → Key → Option ℕ
place_in_rows rows c k = option_and_then (λ row. place_in row k) (slice_get rows c)

-- the index has the first place with each key in each row
pub record IsIndex (rows : List (List Key)) (index : Index) : Type 0 where
  pub is : (c : ℕ) (k : Key) → found_in index c k ≡ place_in_rows rows c k

abbrev pub method_row : Program → List ℕ → List ℕ → Class → List Key
method_row p strings protos c = map (method_key p strings protos) c.methods

abbrev pub field_row : Program → List ℕ → List Kind → Class → List Key
field_row p strings kinds c = map (field_key p strings kinds) c.fields

-- there are few classes, and each has few members
pub record AreFew {X : Type 0} (members : Class → List X) (cs : List Class) : Type 0 where
  pub classes : length cs < 2 ^ 32
  pub each : (c : ℕ) (k : Class) → slice_get cs c ≡ Some k → length (members k) < 2 ^ 32

-- ---- spellings

abbrev pub spellings_of : Spellings → List Text
spellings_of s = map (λ v. v.items) s.numbers.keys

-- what adding a spelling does
pub record AddedSpelling (old new : Spellings) (units : Text) (n : ℕ) : Type 0 where
  pub once : StandOnce (spellings_of new)
  pub stays : Stays (spellings_of old) (spellings_of new)
  pub there : slice_get (spellings_of new) n ≡ Some units

-- so many protos have the numbers of their spellings
pub record SpellingsMade (p : Program) (s : Spellings) (protos : List ℕ) (done : ℕ) : Type 0 where
  pub once : StandOnce (spellings_of s)
  pub long : length protos ≡ done
  pub at : (n : ℕ) → n < done → slice_get (spellings_of s) (string_in protos n) ≡ Some (proto_text (signature_at p n))

-- the members of the classes of a program, by these numbers of its strings and these types of its type numbers
pub record IsDeclared (p : Program) (strings : List ℕ) (kinds : List Kind) (d : Declared) : Type 0 where
  pub protos : List ℕ
  pub spelled : SpellingsMade p d.spellings protos (length p.protos)
  pub methods : IsIndex (map (method_row p strings protos) p.classes) d.methods
  pub fields : IsIndex (map (field_row p strings kinds) p.classes) d.fields
