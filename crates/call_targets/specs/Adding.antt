-- What is added to an answer, note by note.
use Rattle.std.specs.Prelude.{◌≡◌, ◌*◌, ◌⊎◌, ℕ, Bool, true, false, List, length, slice_index_or, Contains}
use Rattle.call_targets.specs.declared.table.Link.{Link}
use Rattle.call_targets.specs.declared.table.Targets.{Targets}

-- one thing that an answer notes: a link, a call that may leave, a method that the framework may enter, a class that it may need
pub data Note : Type 0 where
  Links : (link : Link) → Note
  Leaves : (call : ℕ) → Note
  Enters : (method : ℕ) → Note
  Needs : (class : ℕ) → Note

abbrev pub NotedBy : Bool → Targets → Note → Type 0
NotedBy past t (Links link) = Contains t.links.items link
NotedBy past t (Leaves n) = slice_index_or t.leaves.items n past ≡ true
NotedBy past t (Enters n) = slice_index_or t.entered.items n past ≡ true
NotedBy past t (Needs n) = slice_index_or t.begun.items n past ≡ true

-- it is noted, and it is noted or past the table
abbrev pub IsNoted : Targets → Note → Type 0
IsNoted t x = NotedBy false t x

abbrev pub IsMet : Targets → Note → Type 0
IsMet t x = NotedBy true t x

-- the tables are as long
pub record SameSizes (old new : Targets) : Type 0 where
  pub leaves : length new.leaves.items ≡ length old.leaves.items
  pub entered : length new.entered.items ≡ length old.entered.items
  pub begun : length new.begun.items ≡ length old.begun.items

-- just what a claim holds of is added
pub record AddsBy (P : Note → Type 0) (old new : Targets) : Type 0 where
  pub keeps : (x : Note) → IsMet old x → IsMet new x
  pub has : (x : Note) → P x → IsMet new x
  pub only : (x : Note) → IsNoted new x → IsNoted old x ⊎ P x
  pub sizes : SameSizes old new

-- just these notes are added
pub record Adds (notes : List Note) (old new : Targets) : Type 0 where
  pub by : AddsBy (Contains notes) old new

-- just the mark of a number is turned on, if there is such a number
pub record TurnsOn (number : ℕ) (old new : List Bool) : Type 0 where
  pub long : length new ≡ length old
  pub keeps : (n : ℕ) → slice_index_or old n true ≡ true → slice_index_or new n true ≡ true
  pub on : slice_index_or new number true ≡ true
  pub only : (n : ℕ) → slice_index_or new n false ≡ true → (slice_index_or old n false ≡ true) ⊎ (n ≡ number)

-- nothing is noted, in tables of these lengths
pub record IsBlank (methods classes : ℕ) (t : Targets) : Type 0 where
  pub nothing : (x : Note) → IsNoted t x → ⊥
  pub leaves : length t.leaves.items ≡ 2 * methods
  pub entered : length t.entered.items ≡ methods
  pub begun : length t.begun.items ≡ classes
