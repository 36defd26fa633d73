-- Keys of members, and where the members of a key stand in each class.
use Rattle.std.specs.Prelude.{◌≡◌, ◌<◌, ◌≤◌, ◌-◌, ◌^◌, ◌&&◌, ℕ, Bool, List, map, length, Option, None, Some, nat_eq, slice_get, slice_index_or, position, option_and_then, cond, not, false}
use Rattle.indexmap.specs.IndexMap.{get}
use Rattle.program_model.specs.declared.pools.FieldName.{FieldName}
use Rattle.program_model.specs.declared.pools.MethodName.{MethodName}
use Rattle.program_model.specs.declared.program.Class.{Class}
use Rattle.program_model.specs.declared.program.Method.{Method}
use Rattle.program_model.specs.MemberRules.{is_static, is_private}
use Rattle.hierarchy.specs.declared.members.Members.{Members}

-- ---- keys

-- the key of a number, none past the table
abbrev pub key_at : List ℕ → ℕ → ℕ
key_at keys number = slice_index_or keys number 4294967295

abbrev pub field_pair : FieldName → ℕ × ℕ
field_pair f = (f.name, f.kind)

abbrev pub method_pair : MethodName → ℕ × ℕ
method_pair m = (m.name, m.proto)

-- there is a key below the count for each entry, and two entries have one key just where they have one pair
pub record AreKeys {X : Type 0} (pair : X → ℕ × ℕ) (entries : List X) (keys : List ℕ) (count : ℕ) : Type 0 where
  pub long : length keys ≡ length entries
  pub small : length entries < 2 ^ 32 - 1
  pub few : count ≤ length entries
  pub below : (i : ℕ) (x : X) → slice_get entries i ≡ Some x → key_at keys i < count
  pub one : (i j : ℕ) (x y : X) → slice_get entries i ≡ Some x → slice_get entries j ≡ Some y → key_at keys i ≡ key_at keys j → pair x ≡ pair y
  pub same : (i j : ℕ) (x y : X) → slice_get entries i ≡ Some x → slice_get entries j ≡ Some y → pair x ≡ pair y → key_at keys i ≡ key_at keys j

-- ---- the members of the classes by key

abbrev pub same_pair : ℕ × ℕ → ℕ × ℕ → Bool
same_pair a b = nat_eq a.0 b.0 && nat_eq a.1 b.1

-- the place that the members have for a class and a key
abbrev pub found_in : Members → ℕ → ℕ → Option ℕ
found_in members class key = get same_pair members.places (class, key)

-- the place for this class and this key alone
abbrev pub one_at : ℕ → ℕ → ℕ → ℕ → ℕ → Option ℕ
one_at class key place c k = cond (same_pair (class, key) (c, k)) (Some place) None

-- the first place with the key in the row of this class alone
abbrev pub index_of_row : ℕ → List ℕ → ℕ → ℕ → Option ℕ
index_of_row class row c k = cond (nat_eq class c) (position (λ x. nat_eq x k) row) None

abbrev pub place_in_rows : List (List ℕ) → ℕ → ℕ → Option ℕ
place_in_rows rows c k = option_and_then (position (λ x. nat_eq x k)) (slice_get rows c)

-- the members have the first place with each key in each row
pub record IsIndex (rows : List (List ℕ)) (members : Members) : Type 0 where
  pub is : (c k : ℕ) → found_in members c k ≡ place_in_rows rows c k

pub record AreShort (rows : List (List ℕ)) : Type 0 where
  pub few : length rows < 2 ^ 32
  pub each : (c : ℕ) (row : List ℕ) → slice_get rows c ≡ Some row → length row < 2 ^ 32

-- no row has a key twice
pub record StandOnce (rows : List (List ℕ)) : Type 0 where
  pub once : (c i j k : ℕ) (row : List ℕ) → slice_get rows c ≡ Some row → slice_get row i ≡ Some k → slice_get row j ≡ Some k → i ≡ j

abbrev pub field_rows : List ℕ → List Class → List (List ℕ)
field_rows keys cs = map (λ c. map (λ f. key_at keys f.name) c.fields) cs

abbrev pub method_rows : List ℕ → List Class → List (List ℕ)
method_rows keys cs = map (λ c. map (λ m. key_at keys m.name) c.methods) cs

-- neither static, private, nor of a name that is marked
abbrev pub is_virtual_by : List Bool → Method → Bool
is_virtual_by special m = not (is_static m.flags) && not (is_private m.flags) && not (slice_index_or special m.name false)
