-- What a walk has seen, and what waits in it.
use Rattle.std.specs.Prelude.{◌≡◌, ◌<◌, ◌≤◌, ◌⊎◌, ℕ, zero, suc, Bool, true, false, List, [], ◌++◌, length, reverse, Option, Some, None, slice_get, slice_index_or, slice_set, Contains, cond}
use Rattle.std.specs.Option.{option_or}
use Rattle.program_model.specs.Lookups.{class_place}
use Rattle.program_model.specs.declared.pools.MethodName.{MethodName}
use Rattle.program_model.specs.declared.program.MethodAt.{MethodAt}
use Rattle.program_model.specs.declared.program.Program.{Program}
use Rattle.class_defs.specs.Places.{interface_places}
use Rattle.class_defs.specs.Members.{own_method, own_virtual, is_interface}
use Rattle.class_defs.specs.Finding.{first_among, resolution_of}
use Rattle.hierarchy.specs.declared.walk.Walk.{Walk}

abbrev pub is_seen : Walk → ℕ → Bool
is_seen w c = slice_index_or w.seen.items c false

-- what waits, the first that is taken first
abbrev pub waits : Walk → List ℕ
waits w = reverse w.waiting.items

-- what is seen is listed
pub record IsFair (w : Walk) : Type 0 where
  pub listed : (c : ℕ) → is_seen w c ≡ true → Contains w.list.items c

-- nothing is seen of so many classes, and nothing waits
pub record IsClear (n : ℕ) (w : Walk) : Type 0 where
  pub long : length w.seen.items ≡ n
  pub unseen : (c : ℕ) → is_seen w c ≡ true → ⊥
  pub none : waits w ≡ []

-- nothing is seen of so many classes
pub record IsUnseen (n : ℕ) (w : Walk) : Type 0 where
  pub long : length w.seen.items ≡ n
  pub unseen : (c : ℕ) → is_seen w c ≡ true → ⊥

-- ---- a visit of a class by what is seen and what waits before and after it

-- the class is seen already, or there is none
pub record Skips (seen : List Bool) (stack : List ℕ) (class : ℕ) (seen' : List Bool) (stack' : List ℕ) (r : Option ℕ) : Type 0 where
  pub nothing : r ≡ None
  pub same : seen' ≡ seen
  pub rest : stack' ≡ stack
  pub why : (slice_index_or seen class false ≡ true) ⊎ (length seen ≤ class)

-- what is looked for is there
pub record Hits (found r : Option ℕ) : Type 0 where
  pub place : ℕ
  pub there : found ≡ Some place
  pub is : r ≡ Some place

-- it isn't, and those above the class wait
pub record Opens (seen : List Bool) (stack : List ℕ) (class : ℕ) (found : Option ℕ) (above : List ℕ) (seen' : List Bool) (stack' : List ℕ) (r : Option ℕ) : Type 0 where
  pub absent : found ≡ None
  pub nothing : r ≡ None
  pub short : class < length seen
  pub new : slice_index_or seen class false ≡ false
  pub marked : seen' ≡ slice_set seen class true
  pub longer : stack' ≡ above ++ stack

-- whether it is opened
abbrev pub Enters : List Bool → List ℕ → ℕ → List ℕ → List Bool → List ℕ → Bool → Type 0
Enters seen stack class above seen' stack' true = Opens seen stack class None above seen' stack' None
Enters seen stack class above seen' stack' false = Skips seen stack class seen' stack' None

-- a class is passed over, or is opened and gives something
abbrev pub Takes : {X : Type 0} → List X → List Bool → List ℕ → ℕ → List ℕ → List Bool → List ℕ → List X → List X → Type 0
Takes gives seen stack class above seen' stack' out out' = ((Skips seen stack class seen' stack' None) × (out' ≡ out)) ⊎ ((Opens seen stack class None above seen' stack' None) × (out' ≡ out ++ gives))

abbrev pub Visits : List Bool → List ℕ → ℕ → Option ℕ → List ℕ → List Bool → List ℕ → Option ℕ → Type 0
Visits seen stack class found above seen' stack' r = (Skips seen stack class seen' stack' r) ⊎ (Hits found r ⊎ Opens seen stack class found above seen' stack' r)

-- the first answer in a class and then in those above it, each in turn, so many steps up
abbrev pub deep : {X : Type 0} → (ℕ → Option X) → (ℕ → List ℕ) → ℕ → ℕ → Option X
deep own above zero c = None
deep own above (suc n) c = option_or (own c) (first_among (deep own above n) (above c))

-- what is seen has no answer
pub record IsSpent {X : Type 0} (answers : ℕ → Option X) (n : ℕ) (seen : List Bool) : Type 0 where
  pub none : (c : ℕ) → slice_index_or seen c false ≡ true → answers c ≡ None
  pub size : length seen ≡ n

-- the first method of a name and a proto in an interface and in those above it, each in turn
abbrev pub in_interfaces : Program → ℕ → ℕ → ℕ → Option MethodAt
in_interfaces p name proto c = deep (own_method p name proto) (interface_places p) (length p.classes) c

-- the first in the interfaces that a class lists
abbrev pub in_lists : Program → ℕ → ℕ → ℕ → Option MethodAt
in_lists p name proto c = first_among (in_interfaces p name proto) (interface_places p c)

-- what an entry of the table of methods resolves to
abbrev pub method_by : Program → MethodName → Option MethodAt
method_by p q = first_among (own_method p q.name q.proto) (resolution_of p (class_place p q.class))

-- ---- the candidates that a class gives

-- the virtual method of a name and a proto that an interface defines
abbrev pub own_candidate : Program → ℕ → ℕ → ℕ → Option MethodAt
own_candidate p name proto c = cond (is_interface (slice_get p.classes c)) (own_virtual p name proto c) None

-- the interfaces that an interface lists
abbrev pub above_interface : Program → ℕ → List ℕ
above_interface p c = cond (is_interface (slice_get p.classes c)) (interface_places p c) []
