-- What receivers of a call find, by number and by the program's own lists (this project's profile: the bytecode page gives no
-- order of resolution).
use Rattle.std.specs.Prelude.{◌≡◌, ◌<◌, ◌&&◌, ◌||◌, not, ℕ, Bool, true, false, List, [], ◌∷◌, length, Option, Some, None, nat_eq, slice_get, cond}
use Rattle.std.specs.List.{list_any, list_all, range_with_len}
use Rattle.program_model.specs.declared.pools.MethodName.{MethodName}
use Rattle.program_model.specs.declared.program.Class.{Class}
use Rattle.program_model.specs.declared.program.MethodAt.{MethodAt}
use Rattle.program_model.specs.declared.program.Program.{Program}
use Rattle.program_model.specs.Lookups.{class_place}
use Rattle.class_defs.specs.Finding.{Search, Nothing, Clash, Finds, finds_at}
use Rattle.class_defs.specs.Members.{is_interface}
use Rattle.class_defs.specs.Places.{is_under, super_place, interface_places}
use Rattle.hierarchy.specs.Naming.{IsKey, definers_of}
use Rattle.hierarchy.specs.Shapes.{IsResolved}
use Rattle.hierarchy.specs.Touring.{subclasses_of}
use Rattle.hierarchy.specs.Walking.{IsFair}
use Rattle.hierarchy.specs.declared.walk.Walk.{Walk}
use Rattle.receivers.specs.Listing.{AreListed}
use Rattle.receivers.specs.declared.finding.Finder.{Finder}
use Rattle.receivers.specs.declared.finding.Named.{Named}
pub use Rattle.class_criteria.specs.Overriding.{overrides}

-- ---- one class

abbrev pub lists : Option Class → ℕ → Bool
lists None kind = false
lists (Some c) kind = nat_eq c.superclass kind || list_any (λ k. nat_eq k kind) c.interfaces

-- a class that stands above another one, or that one, lists a type
abbrev pub lists_above : Program → ℕ → ℕ → Bool
lists_above p class kind = list_any (λ d. is_under p class d && lists (slice_get p.classes d) kind) (range_with_len 0 (length p.classes))

abbrev pub under_place : Program → ℕ → ℕ → Option ℕ → Bool
under_place p class kind (Some upper) = is_under p class upper
under_place p class kind None = lists_above p class kind

-- a class stands under a type by the program's own lists
abbrev pub stands_under : Program → ℕ → ℕ → Bool
stands_under p class kind = under_place p class kind (class_place p kind)

abbrev pub only : Search → Option MethodAt
only Nothing = None
only Clash = None
only (Finds at) = Some at

-- what an object of a class finds for a call, if it stands under the type that the call names
abbrev pub found_by : Program → MethodName → ℕ → Option MethodAt
found_by p q class = cond (stands_under p class q.class) (only (finds_at p class q.name q.proto)) None

-- ---- several classes

abbrev pub is_at : MethodAt → Option MethodAt → Bool
is_at at None = false
is_at at (Some other) = nat_eq other.class at.class && nat_eq other.place at.place

abbrev pub all_find : Program → MethodName → MethodAt → List ℕ → Bool
all_find p q at classes = list_all (λ c. is_at at (found_by p q c)) classes

abbrev pub agreed_on : Program → MethodName → List ℕ → Option MethodAt → Option MethodAt
agreed_on p q classes None = None
agreed_on p q classes (Some at) = cond (all_find p q at classes) (Some at) None

-- the one method that objects of all of some classes find, of which there is at least one
abbrev pub agreed : Program → MethodName → List ℕ → Option MethodAt
agreed p q [] = None
agreed p q (c ∷ cs) = agreed_on p q cs (found_by p q c)

-- the one that objects of a class and of all classes under it find
abbrev pub agreed_under : Program → MethodName → ℕ → Option MethodAt
agreed_under p q class = agreed p q (class ∷ subclasses_of p class)

-- ---- programs that list interfaces alone as interfaces

abbrev pub interface_at : Program → ℕ → Bool
interface_at p c = is_interface (slice_get p.classes c)

abbrev pub super_is : Program → Option ℕ → Bool
super_is p None = true
super_is p (Some c) = interface_at p c

-- the interfaces of a class are interfaces, and the superclass of an interface is none that isn't one
abbrev pub is_straight_at : Program → ℕ → Bool
is_straight_at p c = list_all (interface_at p) (interface_places p c) && (not (interface_at p c) || super_is p (super_place p c))

abbrev pub is_straight : Program → Bool
is_straight p = list_all (is_straight_at p) (range_with_len 0 (length p.classes))

-- one of its definers is such a class
abbrev pub is_overridden : Program → MethodName → ℕ → MethodAt → Bool
is_overridden p q class target = list_any (overrides p q class target) (definers_of p q.name q.proto)

-- what a class hands down, where the classes under it have it among their superclasses
abbrev pub handed_down : Program → MethodName → ℕ → MethodAt → Option MethodAt
handed_down p q class target = cond (stands_under p class q.class && not (is_overridden p q class target)) (Some target) None

-- ---- what the code is asked with

-- the tables are those of the program
pub record IsFinding (s : Finder) : Type 0 where
  pub resolved : IsResolved s.program.now s.hierarchy.now
  pub listed : AreListed s.program.now.classes (length s.program.now.types) s.listed (length s.program.now.classes)
  pub straight : s.straight ≡ is_straight s.program.now

-- a walk over the classes of a program
pub record IsReady (p : Program) (w : Walk) : Type 0 where
  pub fair : IsFair w
  pub size : length w.seen.items ≡ length p.classes

-- this is what an entry of the table of methods names
pub record IsNameOf (s : Finder) (q : MethodName) (n : Named) : Type 0 where
  pub kind : n.kind ≡ q.class
  pub short : q.class < length s.program.now.types
  pub key : IsKey s.program.now s.hierarchy.now n.key q.name q.proto

-- all of these are places of classes
abbrev pub AreShort : Program → List ℕ → Type 0
AreShort p cs = (k c : ℕ) → slice_get cs k ≡ Some c → c < length p.classes

-- ---- another method to call

abbrev pub is_other : Option ℕ → ℕ → Bool
is_other None d = true
is_other (Some c) d = not (nat_eq c d)

-- a class other than the named one defines a method of the name and the proto of a call
abbrev pub has_other : Program → MethodName → Bool
has_other p q = list_any (is_other (class_place p q.class)) (definers_of p q.name q.proto)
