-- The order of the classes: each directly behind those of its superclass and interfaces that were not written yet.
use Rattle.std.specs.Prelude.{◌≡◌, ℕ, zero, suc, List, [], ◌∷◌, ◌++◌, length, map, drop, replicate, Bool, true, false, nat_eq, nat_lt, Option, Some, None, option_to_list, slice_get, slice_set, slice_index_or, if◌then◌else◌}
use Rattle.program_model.specs.declared.program.Class.{Class}
use Rattle.program_model.specs.declared.program.Program.{Program}
use Rattle.dex_write.specs.declared.class_order.Visit.{Visit}
use Rattle.dex_write.specs.declared.class_order.Search.{Search}

-- ---- what stands above a class

-- the place of the first of these classes that has this name, where the first of them has a place; or none
abbrev pub first_from : ℕ → ℕ → ℕ → List Class → ℕ
first_from none kind place [] = none
first_from none kind place (c ∷ cs) = if nat_eq c.name kind then place else first_from none kind (suc place) cs

-- the place of the class that defines a type, the number of classes where none does
abbrev pub place_in : Program → Bool → ℕ → ℕ
place_in p false kind = length p.classes
place_in p true kind = first_from (length p.classes) kind 0 p.classes

unfoldable pub place_of : Program → ℕ → ℕ
place_of p kind = place_in p (nat_lt kind (length p.types)) kind

-- the places of types, of which this one has that place unless it had one before
abbrev pub with_place : ℕ → List ℕ → ℕ → ℕ → List ℕ
with_place none places kind place = if nat_eq (slice_index_or places kind none) none then slice_set places kind place else places

-- these are the places of all types
pub record ArePlaces (p : Program) (places : List ℕ) : Type 0 where
  pub at : (kind : ℕ) → slice_index_or places kind (length p.classes) ≡ place_of p kind

abbrev pub kinds_above : Class → List ℕ
kinds_above c = c.superclass ∷ c.interfaces

abbrev pub above_in : Program → Option Class → List ℕ
above_in p None = []
above_in p (Some c) = map (place_of p) (kinds_above c)

-- the places of the superclass and the interfaces of the class at a place
unfoldable pub above : Program → ℕ → List ℕ
above p class = above_in p (slice_get p.classes class)

-- ---- the order

abbrev pub in_fresh : Option Bool → Bool
in_fresh None = false
in_fresh (Some begun) = if begun then false else true

-- no class was begun there yet
abbrev pub is_fresh : List Bool → ℕ → Bool
is_fresh begun class = in_fresh (slice_get begun class)

-- From where these classes were begun, the classes at these places are asked for in turn: those that are begun then, and
-- the order in which they and those above them are written. A class that was begun is not written again; another one
-- comes behind what is asked for by those above it.
pub data Follows (p : Program) : List Bool → List ℕ → List Bool → List ℕ → Type 0 where
  Done : (begun : List Bool) → Follows p begun [] begun []
  Skip : (begun : List Bool) (class : ℕ) (rest : List ℕ) (end : List Bool) (out : List ℕ) → is_fresh begun class ≡ false
      → Follows p begun rest end out → Follows p begun (class ∷ rest) end out
  Enter : (begun : List Bool) (class : ℕ) (rest : List ℕ) (mid end : List Bool) (inner out : List ℕ) → is_fresh begun class ≡ true
      → Follows p (slice_set begun class true) (above p class) mid inner → Follows p mid rest end out
      → Follows p begun (class ∷ rest) end (inner ++ class ∷ out)

abbrev pub counting : ℕ → ℕ → List ℕ
counting from zero = []
counting from (suc n) = from ∷ counting (suc from) n

-- all classes are asked for in turn
pub record IsOrder (p : Program) (order : List ℕ) : Type 0 where
  pub begun : List Bool
  pub follows : Follows p (replicate (length p.classes) false) (counting 0 (length p.classes)) begun order

-- and there is no other order
pub record IsOnlyOrder (p : Program) (order : List ℕ) : Type 0 where
  pub one : (other : List ℕ) → IsOrder p other → other ≡ order

-- the classes at these places
abbrev pub classes_at : Program → ℕ → List Class
classes_at p place = option_to_list (slice_get p.classes place)

-- ---- the search for it

abbrev pub visit : ℕ → ℕ → Visit
visit class looked = record { class = class; looked = looked }

abbrev pub begin_where : Bool → ℕ → Search → Search
begin_where false class s = s
begin_where true class s = record { begun = slice_set s.begun class true; way = s.way ++ visit class 0 ∷ []; order = s.order }

abbrev pub begin_at : ℕ → Search → Search
begin_at class s = begin_where (is_fresh s.begun class) class s

abbrev pub pushed : Visit → Search → Search
pushed v s = record { begun = s.begun; way = s.way ++ v ∷ []; order = s.order }

abbrev pub written : ℕ → Search → Search
written class s = record { begun = s.begun; way = s.way; order = s.order ++ class ∷ [] }

abbrev pub step_to : Option ℕ → Visit → Search → Search
step_to (Some class) v s = begin_at class (pushed (visit v.class (suc v.looked)) s)
step_to None v s = written v.class s

-- after a look at the next class above the last one on the way, which was taken from it
abbrev pub step_from : Program → Visit → Search → Search
step_from p v s = step_to (slice_get (above p v.class) v.looked) v s

-- what the classes on the way, the last one first, write and begin
pub record Then (p : Program) (begun : List Bool) (v : Visit) (rest : List Bool → List ℕ → Type 0) (out : List ℕ) : Type 0 where
  pub mid : List Bool
  pub inner : List ℕ
  pub more : List ℕ
  pub follows : Follows p begun (drop v.looked (above p v.class)) mid inner
  pub goes_on : rest mid more
  pub is : out ≡ inner ++ v.class ∷ more

abbrev pub Ends : Program → List Bool → List Visit → List Bool → List ℕ → Type 0
Ends p begun [] end out = (end ≡ begun) × (out ≡ [])
Ends p begun (v ∷ way) end out = Then p begun v (λ mid more. Ends p mid way end more) out

-- the way is empty, and what was on it is written
pub record Drained (p : Program) (way : List Visit) (s t : Search) : Type 0 where
  pub empty : t.way ≡ []
  pub inner : List ℕ
  pub order : t.order ≡ s.order ++ inner
  pub ends : Ends p s.begun way t.begun inner

-- a class was asked for
pub record Asked (p : Program) (class : ℕ) (s t : Search) : Type 0 where
  pub empty : t.way ≡ []
  pub inner : List ℕ
  pub order : t.order ≡ s.order ++ inner
  pub on : (rest : List ℕ) (end : List Bool) (out : List ℕ) → Follows p t.begun rest end out → Follows p s.begun (class ∷ rest) end (inner ++ out)
