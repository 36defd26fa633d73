-- The used entries of the tables, in order, and their new numbers.
use Rattle.std.specs.Prelude.{◌≡◌, ℕ, suc, List, [], ◌∷◌, map, nat_lt, ◌&&◌, if◌then◌else◌, replicate, slice_get, slice_set, slice_index_or, Bool, Option, Some, None}
use Rattle.std.specs.List.{flat_map}
use Rattle.std.specs.List.Sorted.{IsPermutation, IsSortedByKey}
use Rattle.std.specs.Cmp.Lexicographic.{slice_cmp}
use Rattle.std.specs.Ordering.{nat_cmp}
use Rattle.program_model.specs.declared.pools.Proto.{Proto}
use Rattle.program_model.specs.declared.pools.FieldName.{FieldName}
use Rattle.program_model.specs.declared.pools.MethodName.{MethodName}
use Rattle.program_model.specs.declared.program.Program.{Program}
use Rattle.dex_pools.specs.declared.used.Named.{Named}
use Rattle.dex_pools.specs.declared.used.Named.TheVariants as named
use Rattle.dex_pools.specs.declared.used.Used.{Used}
use Rattle.dex_pools.specs.Used.{marked, no_use, program_names}
use Rattle.dex_pools.specs.Written.{renumbered}

-- the numbers of 32 bits of the flags that are set, the first of which has this number; the greatest stands for none
abbrev pub numbers_from : ℕ → List Bool → List ℕ
numbers_from n [] = []
numbers_from n (flag ∷ flags) = if flag && nat_lt n 4294967295 then n ∷ numbers_from (suc n) flags else numbers_from (suc n) flags

unfoldable pub numbers_of : List Bool → List ℕ
numbers_of flags = numbers_from 0 flags

-- ---- what the entries of the tables name

abbrev pub type_entry : Option ℕ → List Named
type_entry None = []
type_entry (Some string) = named.Text string ∷ []

abbrev pub kinds : List ℕ → List Named
kinds ns = map (λ n. named.Kind n) ns

abbrev pub proto_entry : Option Proto → List Named
proto_entry None = []
proto_entry (Some p) = named.Text p.shorty ∷ (named.Kind p.result ∷ kinds p.parameters)

abbrev pub field_entry : Option FieldName → List Named
field_entry None = []
field_entry (Some f) = named.Kind f.class ∷ (named.Kind f.kind ∷ (named.Text f.name ∷ []))

abbrev pub method_entry : Option MethodName → List Named
method_entry None = []
method_entry (Some m) = named.Kind m.class ∷ (named.Proto m.proto ∷ (named.Text m.name ∷ []))

unfoldable pub names_of_type : List ℕ → ℕ → List Named
names_of_type types n = type_entry (slice_get types n)

unfoldable pub names_of_proto : List Proto → ℕ → List Named
names_of_proto protos n = proto_entry (slice_get protos n)

unfoldable pub names_of_field : List FieldName → ℕ → List Named
names_of_field fields n = field_entry (slice_get fields n)

unfoldable pub names_of_method : List MethodName → ℕ → List Named
names_of_method methods n = method_entry (slice_get methods n)

-- what the used methods name is used too, and then what the used fields, protos and types name
unfoldable pub close_methods : Program → Used → Used
close_methods p u = marked u (flat_map (names_of_method p.methods) (numbers_of u.methods))

unfoldable pub close_fields : Program → Used → Used
close_fields p u = marked u (flat_map (names_of_field p.fields) (numbers_of u.fields))

unfoldable pub close_protos : Program → Used → Used
close_protos p u = marked u (flat_map (names_of_proto p.protos) (numbers_of u.protos))

unfoldable pub close_types : Program → Used → Used
close_types p u = marked u (flat_map (names_of_type p.types) (numbers_of u.types))

-- the entries that the written program needs
unfoldable pub used_in : Program → Used
used_in p = close_types p (close_protos p (close_fields p (close_methods p (marked (no_use p) (program_names p)))))

-- ---- the order of the entries, each table by a list of numbers for each entry

-- an entry of a list of numbers; past its end there is none
abbrev pub entry_of : List ℕ → ℕ → ℕ
entry_of ns n = slice_index_or ns n 4294967295

-- strings by their units, and types by the new numbers of their strings
abbrev pub string_key : List (List ℕ) → ℕ → List ℕ
string_key strings n = slice_index_or strings n []

abbrev pub type_key : List ℕ → List ℕ → ℕ → List ℕ
type_key strings types n = renumbered strings (entry_of types n) ∷ []

-- protos by the new numbers of their results and then of their parameters
abbrev pub proto_numbers : List ℕ → Option Proto → List ℕ
proto_numbers types None = []
proto_numbers types (Some p) = renumbered types p.result ∷ map (renumbered types) p.parameters

abbrev pub proto_key : List ℕ → List Proto → ℕ → List ℕ
proto_key types protos n = proto_numbers types (slice_get protos n)

-- fields by the new numbers of their classes, names and types
abbrev pub field_numbers : List ℕ → List ℕ → Option FieldName → List ℕ
field_numbers strings types None = 4294967295 ∷ 4294967295 ∷ 4294967295 ∷ []
field_numbers strings types (Some f) = renumbered types f.class ∷ renumbered strings f.name ∷ renumbered types f.kind ∷ []

abbrev pub field_key : List ℕ → List ℕ → List FieldName → ℕ → List ℕ
field_key strings types fields n = field_numbers strings types (slice_get fields n)

-- methods by the new numbers of their classes, names and protos
abbrev pub method_numbers : List ℕ → List ℕ → List ℕ → Option MethodName → List ℕ
method_numbers strings types protos None = 4294967295 ∷ 4294967295 ∷ 4294967295 ∷ []
method_numbers strings types protos (Some m) = renumbered types m.class ∷ renumbered strings m.name ∷ renumbered protos m.proto ∷ []

abbrev pub method_key : List ℕ → List ℕ → List ℕ → List MethodName → ℕ → List ℕ
method_key strings types protos methods n = method_numbers strings types protos (slice_get methods n)

-- these are the numbers, each as often, and they ascend by their keys
pub record IsInOrder (key : ℕ → List ℕ) (numbers order : List ℕ) : Type 0 where
  pub same : IsPermutation numbers order
  pub ascends : IsSortedByKey key (slice_cmp nat_cmp) order

-- each of these numbers gets its place, the first of them this one
abbrev pub places_from : ℕ → List ℕ → List ℕ → List ℕ
places_from place places [] = places
places_from place places (n ∷ ns) = places_from (suc place) (slice_set places n place) ns

-- for each of so many entries its place in the order; the greatest number of 32 bits for one that is not there
unfoldable pub places_of : List ℕ → ℕ → List ℕ
places_of order count = places_from 0 (replicate count 4294967295) order

-- one table: the used entries in order, and for each entry of the table its place there
pub record IsNumbered (key : ℕ → List ℕ) (used : List Bool) (count : ℕ) (order numbers : List ℕ) : Type 0 where
  pub in_order : IsInOrder key (numbers_of used) order
  pub placed : numbers ≡ places_of order count
