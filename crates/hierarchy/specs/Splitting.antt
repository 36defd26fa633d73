-- Package-private methods that a class and its superclasses define, by tables of keys.
use Rattle.std.specs.Prelude.{◌≡◌, ◌<◌, ◌&&◌, ◌⊎◌, ℕ, Bool, true, false, List, [], Option, Some, None, not, length, nat_eq, slice_get, cond}
use Rattle.std.specs.Cmp.Lexicographic.{pointwise}
use Rattle.std.specs.List.{list_any}
use Rattle.std.specs.Ordering.{nat_cmp}
use Rattle.std.specs.FinMap as finite
use Rattle.lattice_core.specs.declared.flat_values.Flat.{Flat}
use Rattle.lattice_core.specs.declared.flat_values.Flat.TheVariants.{Bottom, Known, Any}
use Rattle.program_model.specs.declared.program.Method.{Method}
use Rattle.program_model.specs.declared.program.Class.{Class}
use Rattle.program_model.specs.declared.program.Program.{Program}
use Rattle.program_model.specs.MemberRules.{has_flag}
use Rattle.program_model.specs.Texts.{type_text}
use Rattle.class_defs.specs.ClassGraph.{StepsTo, package_of, IsSplit}
use Rattle.class_defs.specs.Places.{super_place}
use Rattle.hierarchy.specs.Membership.{key_at, is_virtual_by}
use Rattle.hierarchy.specs.Tables.{read_at}

-- ---- packages

abbrev pub package_in : Program → Option Class → List ℕ
package_in p None = []
package_in p (Some k) = package_of (type_text p k.name)

-- the package of the class at a place
abbrev pub package_at : Program → ℕ → List ℕ
package_at p c = package_in p (slice_get p.classes c)

abbrev pub same_package : Program → ℕ → ℕ → Bool
same_package p a b = pointwise nat_eq (package_at p a) (package_at p b)

-- ---- methods that only the classes of a package may override

abbrev pub is_hidden_by : List Bool → Method → Bool
is_hidden_by special m = is_virtual_by special m && not (has_flag m.flags 1) && not (has_flag m.flags 4)

abbrev pub hides : List ℕ → List Bool → List Method → ℕ → Bool
hides keys special ms k = list_any (λ m. is_hidden_by special m && nat_eq (key_at keys m.name) k) ms

abbrev pub methods_in : Option Class → List Method
methods_in None = []
methods_in (Some k) = k.methods

abbrev pub methods_at : Program → ℕ → List Method
methods_at p c = methods_in (slice_get p.classes c)

-- ---- a class and those above it by superclass

abbrev pub IsNext : Program → ℕ → ℕ → Type 0
IsNext p c s = super_place p c ≡ Some s

pub record Climbs (p : Program) (c d : ℕ) : Type 0 where
  pub mids : List ℕ
  pub steps : StepsTo (IsNext p) c mids d

abbrev pub OnChain : Program → ℕ → ℕ → Type 0
OnChain p c d = (d ≡ c) ⊎ Climbs p c d

abbrev pub OnChainOf : Program → Option ℕ → ℕ → Type 0
OnChainOf p None d = ⊥
OnChainOf p (Some c) d = OnChain p c d

-- ---- what is known of some classes: none, the package of all by one of them, or that they have no package in common

abbrev pub Tells : Program → (ℕ → Type 0) → Option (Flat ℕ) → Type 0
Tells p Is None = (d : ℕ) → Is d → ⊥
Tells p Is (Some Bottom) = ⊥
Tells p Is (Some (Known q)) = Is q × ((d : ℕ) → Is d → package_at p d ≡ package_at p q)
Tells p Is (Some Any) = (x : List ℕ) → (d : ℕ) × (Is d × (package_at p d ≡ x → ⊥))

-- one class more
abbrev pub with_class : Program → Option (Flat ℕ) → ℕ → Flat ℕ
with_class p None class = Known class
with_class p (Some Bottom) class = Any
with_class p (Some (Known q)) class = cond (same_package p q class) (Known q) Any
with_class p (Some Any) class = Any

abbrev pub Map : Type 0
Map = finite.FinMap nat_cmp (Flat ℕ)

abbrev pub with_key : Program → ℕ → ℕ → Map → Map
with_key p class key map = finite.insert map key (with_class p (finite.get map key) class)

-- with a method of a class, where it is hidden
abbrev pub with_method : Program → List ℕ → List Bool → ℕ → Method → Map → Map
with_method p keys special class m map = cond (is_hidden_by special m) (with_key p class (key_at keys m.name) map) map

-- the classes along a chain that hide a method with the key
abbrev pub Hiding : Program → List ℕ → List Bool → Option ℕ → ℕ → ℕ → Type 0
Hiding p keys special o k d = OnChainOf p o d × (hides keys special (methods_at p d) k ≡ true)

pub record TellsAll (p : Program) (keys : List ℕ) (special : List Bool) (o : Option ℕ) (m : Map) : Type 0 where
  pub each : (k : ℕ) → Tells p (Hiding p keys special o k) (finite.get m k)

-- whether a class is of another package than one of those
abbrev pub is_apart : Program → Option (Flat ℕ) → ℕ → Bool
is_apart p None class = false
is_apart p (Some Bottom) class = true
is_apart p (Some (Known q)) class = not (same_package p q class)
is_apart p (Some Any) class = true

abbrev pub map_or_empty : Option Map → Map
map_or_empty None = finite.empty
map_or_empty (Some m) = m

abbrev pub map_of : List Map → Option ℕ → Map
map_of maps None = finite.empty
map_of maps (Some c) = map_or_empty (slice_get maps c)

pub record HasMaps (p : Program) (keys : List ℕ) (special : List Bool) (maps : List Map) : Type 0 where
  pub each : (c : ℕ) → c < length p.classes → TellsAll p keys special (Some c) (map_of maps (Some c))

-- the method repeats one that is known in a map
abbrev pub splits : Program → List ℕ → List Bool → ℕ → Map → Method → Bool
splits p keys special class above m = is_virtual_by special m && is_apart p (finite.get above (key_at keys m.name)) class

pub record FirstSplit (p : Program) (keys : List ℕ) (special : List Bool) (class : ℕ) (above : Map) (name : ℕ) : Type 0 where
  pub place : ℕ
  pub method : Method
  pub is : slice_get (methods_at p class) place ≡ Some method
  pub front : (other : ℕ) (m : Method) → other < place → slice_get (methods_at p class) other ≡ Some m → splits p keys special class above m ≡ false
  pub splits : splits p keys special class above method ≡ true
  pub named : name ≡ method.name

abbrev pub SplitOf : Program → List ℕ → List Bool → ℕ → Map → Option ℕ → Type 0
SplitOf p keys special class above None = (place : ℕ) (m : Method) → slice_get (methods_at p class) place ≡ Some m → splits p keys special class above m ≡ false
SplitOf p keys special class above (Some name) = FirstSplit p keys special class above name

pub record FoundSplit (p : Program) (keys : List ℕ) (special : List Bool) (supers : List ℕ) (maps : List Map) (class name : ℕ) : Type 0 where
  pub short : class < length supers
  pub is : FirstSplit p keys special class (map_of maps (read_at supers class)) name
  pub first : (other : ℕ) → other < class → SplitOf p keys special other (map_of maps (read_at supers other)) None

abbrev pub FirstBy : Program → List ℕ → List Bool → List ℕ → List Map → Option (ℕ × ℕ) → Type 0
FirstBy p keys special supers maps None = (class : ℕ) → class < length supers → SplitOf p keys special class (map_of maps (read_at supers class)) None
FirstBy p keys special supers maps (Some found) = FoundSplit p keys special supers maps found.0 found.1

pub record AnswersSplit (p : Program) (keys : List ℕ) (special : List Bool) (supers : List ℕ) (r : Option (ℕ × ℕ)) : Type 0 where
  pub maps : List Map
  pub has : HasMaps p keys special maps
  pub is : FirstBy p keys special supers maps r

-- ---- by the program's definitions

-- no class has a split override, or this one is the first that has, and this its first method that is one
abbrev pub NoSplit : Program → Type 0
NoSplit p = (class method : ℕ) → IsSplit p class method → ⊥

pub record IsFirstSplit (p : Program) (class method : ℕ) : Type 0 where
  pub is : IsSplit p class method
  pub first : (other number : ℕ) → other < class → IsSplit p other number → ⊥
  pub front : (number : ℕ) (other : IsSplit p class number) → other.has.place < is.has.place → ⊥

abbrev pub SplitsFirst : Program → Option (ℕ × ℕ) → Type 0
SplitsFirst p None = NoSplit p
SplitsFirst p (Some found) = IsFirstSplit p found.0 found.1
