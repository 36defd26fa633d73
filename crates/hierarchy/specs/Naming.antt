-- What the tables of names say of a program.
use Rattle.std.specs.Prelude.{◌≡◌, ◌<◌, ◌==◌, ◌&&◌, ◌||◌, ℕ, Bool, false, List, [], ◌∷◌, map, length, Option, Some, is_some, nat_eq, codes, slice_get, slice_index_or}
use Rattle.std.specs.List.{filter, range_with_len}
use Rattle.std.specs.Cmp.Lexicographic.{pointwise}
use Rattle.program_model.specs.declared.pools.Proto.{Proto}
use Rattle.class_defs.specs.Members.{proto_is, is_common, own_method}
use Rattle.program_model.specs.declared.pools.MethodName.{MethodName}
use Rattle.program_model.specs.declared.pools.FieldName.{FieldName}
use Rattle.program_model.specs.declared.program.Program.{Program}
use Rattle.program_model.specs.Texts.{first_unit, string_text}
use Rattle.hierarchy.specs.Membership.{key_at, field_pair, method_pair, AreKeys, found_in, place_in_rows, field_rows, method_rows, AreShort}
use Rattle.hierarchy.specs.Tables.{row_of}
use Rattle.hierarchy.specs.declared.build.Named.{Named}
use Rattle.hierarchy.specs.declared.build.Hierarchy.{Hierarchy}

-- the name begins with <
abbrev pub is_special : Program → MethodName → Bool
is_special p m = first_unit (string_text p m.name) == 60

-- a name of these units with a proto is one of the five that every object answers to
abbrev pub common_by : Program → List ℕ → Option Proto → Bool
common_by p units proto = (pointwise nat_eq units (codes "equals") && proto_is p (codes "Ljava/lang/Object;" ∷ []) (codes "Z") proto)
    || (pointwise nat_eq units (codes "hashCode") && proto_is p [] (codes "I") proto)
    || (pointwise nat_eq units (codes "toString") && proto_is p [] (codes "Ljava/lang/String;") proto)
    || (pointwise nat_eq units (codes "clone") && proto_is p [] (codes "Ljava/lang/Object;") proto)
    || (pointwise nat_eq units (codes "finalize") && proto_is p [] (codes "V") proto)

-- the key of each method is marked where it is one of the five
pub record AreCommon (p : Program) (methods : List MethodName) (keys : List ℕ) (marks : List Bool) : Type 0 where
  pub at : (i : ℕ) (x : MethodName) → slice_get methods i ≡ Some x → slice_index_or marks (key_at keys i) false ≡ is_common p x.name x.proto

-- the classes that define a method of a name and a proto, in file order
abbrev pub definers_of : Program → ℕ → ℕ → List ℕ
definers_of p name proto = filter (λ c. is_some (own_method p name proto c)) (range_with_len 0 (length p.classes))

-- the rows in which a key stands, in order
abbrev pub definers_by : List (List ℕ) → ℕ → List ℕ
definers_by rows key = filter (λ c. is_some (place_in_rows rows c key)) (range_with_len 0 (length rows))

-- for each key below a count there is a list of the rows in which it stands
pub record AreDefiners (rows : List (List ℕ)) (count : ℕ) (definers : List (List ℕ)) : Type 0 where
  pub at : (key : ℕ) → key < count → row_of definers key ≡ definers_by rows key

-- keys for names, the places of the members by key, the classes of each key, and which names begin with <
pub record IsNamed (p : Program) (n : Named) : Type 0 where
  pub field_keys : AreKeys field_pair p.fields n.field_keys.keys.items n.field_keys.count
  pub method_keys : AreKeys method_pair p.methods n.method_keys.keys.items n.method_keys.count
  pub fields : (class key : ℕ) → found_in n.fields class key ≡ place_in_rows (field_rows n.field_keys.keys.items p.classes) class key
  pub methods : (class key : ℕ) → found_in n.methods class key ≡ place_in_rows (method_rows n.method_keys.keys.items p.classes) class key
  pub definers : AreDefiners (method_rows n.method_keys.keys.items p.classes) n.method_keys.count n.definers.rows
  pub special : n.special.items ≡ map (is_special p) p.methods
  pub common : AreCommon p p.methods n.method_keys.keys.items n.of_object.items

-- the rows of members are short
pub record HasShortRows (p : Program) : Type 0 where
  pub fields : (keys : List ℕ) → AreShort (field_rows keys p.classes)
  pub methods : (keys : List ℕ) → AreShort (method_rows keys p.classes)

-- the key is that of the methods of this name and this proto
pub record IsKey (p : Program) (h : Hierarchy) (key name proto : ℕ) : Type 0 where
  pub number : ℕ
  pub entry : MethodName
  pub is : slice_get p.methods number ≡ Some entry
  pub name_is : entry.name ≡ name
  pub proto_is : entry.proto ≡ proto
  pub keyed : key ≡ key_at h.named.method_keys.keys.items number

-- the key is that of the fields of this name and this type
pub record IsFieldKey (p : Program) (h : Hierarchy) (key name kind : ℕ) : Type 0 where
  pub number : ℕ
  pub entry : FieldName
  pub is : slice_get p.fields number ≡ Some entry
  pub name_is : entry.name ≡ name
  pub kind_is : entry.kind ≡ kind
  pub keyed : key ≡ key_at h.named.field_keys.keys.items number
