-- A walk in depth from classes to those above them, what it has to do, and the order in which it leaves the classes.
use Rattle.std.specs.Prelude.{◌≡◌, ◌<◌, ◌⊎◌, ℕ, Bool, true, false, List, [], ◌∷◌, ◌++◌, map, length, reverse, Some, slice_get, slice_set, slice_index_or}
use Rattle.class_defs.specs.ClassGraph.{StepsTo}
use Rattle.class_defs.specs.Finding.{beside}
use Rattle.hierarchy.specs.Tables.{read_at, row_of}
use Rattle.hierarchy.specs.declared.order.Climb.{Climb}
use Rattle.hierarchy.specs.declared.order.Task.{Task}
use Rattle.hierarchy.specs.declared.order.Task.TheVariants.{Come, Leave}

-- ---- what stands above by the tables

abbrev pub In : ℕ → List ℕ → Type 0
In u [] = ⊥
In u (x ∷ xs) = (u ≡ x) ⊎ In u xs

-- those directly above a class: its interfaces, then its superclass
abbrev pub ups : List ℕ → List (List ℕ) → ℕ → List ℕ
ups supers rows c = row_of rows c ++ beside (read_at supers c)

-- the second class of so many stands directly above the first
pub record IsUp (up : ℕ → List ℕ) (n c u : ℕ) : Type 0 where
  pub there : In u (up c)
  pub short : u < n

-- the class is its own ancestor
pub record IsCircle (supers : List ℕ) (rows : List (List ℕ)) (class : ℕ) : Type 0 where
  pub mids : List ℕ
  pub steps : StepsTo (IsUp (ups supers rows) (length supers)) class mids class

pub record HasCircle (supers : List ℕ) (rows : List (List ℕ)) : Type 0 where
  pub class : ℕ
  pub short : class < length supers
  pub is : IsCircle supers rows class

-- a class stands in front of the place
pub record IsBefore (order : List ℕ) (i u : ℕ) : Type 0 where
  pub at : ℕ
  pub before : at < i
  pub is : slice_get order at ≡ Some u

-- each class once, behind those directly above it
pub record IsOrder (supers : List ℕ) (rows : List (List ℕ)) (order : List ℕ) : Type 0 where
  pub size : length order ≡ length supers
  pub all : (c : ℕ) → c < length supers → IsBefore order (length order) c
  pub short : (i c : ℕ) → slice_get order i ≡ Some c → c < length supers
  pub once : (i j c : ℕ) → slice_get order i ≡ Some c → slice_get order j ≡ Some c → i ≡ j
  pub behind : (i c u : ℕ) → slice_get order i ≡ Some c → In u (ups supers rows c) → u < length supers → IsBefore order i u

-- ---- steps of the walk

-- what is to be done, the first task first
abbrev pub todo : Climb → List Task
todo c = reverse c.tasks.items

pub record IsNew (n : ℕ) (c : Climb) : Type 0 where
  pub seen : length c.seen.items ≡ n
  pub none_seen : (class : ℕ) → slice_index_or c.seen.items class false ≡ false
  pub left : length c.left.items ≡ n
  pub none_left : (class : ℕ) → class < n → slice_index_or c.left.items class true ≡ false
  pub empty : c.order.items ≡ []
  pub nothing : todo c ≡ []

-- a class that is left already, or is none
pub record Passes (old : Climb) (class : ℕ) (new : Climb) : Type 0 where
  pub done : slice_index_or old.left.items class true ≡ true
  pub same_seen : new.seen.items ≡ old.seen.items
  pub same_left : new.left.items ≡ old.left.items
  pub same_order : new.order.items ≡ old.order.items
  pub same_todo : todo new ≡ todo old

-- the walk comes round to the class
pub record Rounds (old : Climb) (class : ℕ) : Type 0 where
  pub fresh : slice_index_or old.left.items class true ≡ false
  pub seen : slice_index_or old.seen.items class false ≡ true

-- the walk comes to the class for the first time
pub record Opens (old : Climb) (class : ℕ) (above : List ℕ) (new : Climb) : Type 0 where
  pub fresh : slice_index_or old.left.items class true ≡ false
  pub unseen : slice_index_or old.seen.items class false ≡ false
  pub marked : new.seen.items ≡ slice_set old.seen.items class true
  pub same_left : new.left.items ≡ old.left.items
  pub same_order : new.order.items ≡ old.order.items
  pub longer : todo new ≡ map (λ c. Come c) above ++ Leave class ∷ todo old

abbrev pub Comes : Climb → ℕ → List ℕ → Climb → Bool → Type 0
Comes old class above new true = Passes old class new ⊎ Opens old class above new
Comes old class above new false = Rounds old class

-- the walk leaves a class
pub record Closes (old : Climb) (class : ℕ) (new : Climb) : Type 0 where
  pub fresh : slice_index_or old.left.items class true ≡ false
  pub same_seen : new.seen.items ≡ old.seen.items
  pub marked : new.left.items ≡ slice_set old.left.items class true
  pub longer : new.order.items ≡ old.order.items ++ class ∷ []
  pub same_todo : todo new ≡ todo old

abbrev pub Leaves : Climb → ℕ → Climb → Type 0
Leaves old class new = Passes old class new ⊎ Closes old class new

abbrev pub Follows : (ℕ → List ℕ) → Climb → Task → Climb → Bool → Type 0
Follows up old (Come class) new on = Comes old class (up class) new on
Follows up old (Leave class) new true = Leaves old class new
Follows up old (Leave class) new false = ⊥
