-- What is noted of the made classes.
use Rattle.std.specs.Prelude.{◌≡◌, ◌<◌, ℕ, Bool, true, List, length, vec_len, Some, slice_get, Contains}
use Rattle.program_model.specs.declared.pass.Outside.{Outside}
use Rattle.program_model.specs.declared.program.Class.{Class}
use Rattle.program_model.specs.declared.program.Program.{Program}
use Rattle.call_graph.specs.declared.live_set.LiveSet.{LiveSet}
use Rattle.call_graph.specs.Bases.{object_number}
use Rattle.call_graph.specs.Objects.{IsReady}
use Rattle.call_targets.specs.Adding.{Note}
use Rattle.call_targets.specs.Called.{AreNamed}
use Rattle.call_targets.specs.Noting.{kind_notes}
use Rattle.call_targets.specs.Outsiders.{AreKept}
use Rattle.call_targets.specs.Targeted.{is_on, IsUnder, HasOuter}
use Rattle.call_targets.specs.Walking.{IsClean}
use Rattle.call_targets.specs.declared.made.Tables.{Tables}
use Rattle.call_targets.specs.declared.made.Walks.{Walks}

-- the walks may begin
pub record IsOpen (p : Program) (w : Walks) : Type 0 where
  pub classes : IsReady p w.classes
  pub kinds : IsClean w.kinds
  pub long : vec_len w.kinds.marks ≡ length p.types

-- what is looked up is the program's
pub record AreTables (p : Program) (o : Outside) (live : LiveSet) (t : Tables) : Type 0 where
  pub kept : AreKept p o t.kept
  pub named : AreNamed p live t.named
  pub object : t.object ≡ object_number p

-- a note of a type above the class at a place, whose own type is given; `outer` may say that a type of the framework stands above
pub record OfClass (p : Program) (t : Tables) (place kind : ℕ) (x : Note) : Type 0 where
  pub top : ℕ
  pub outer : Bool
  pub under : IsUnder p kind top
  pub short : top < length p.types
  pub right : outer ≡ true → HasOuter p kind
  pub noted : Contains (kind_notes p t.named t.kept place outer top) x

-- the same, where the class is made
pub record OfMade (p : Program) (t : Tables) (made : List Bool) (place kind : ℕ) (x : Note) : Type 0 where
  pub is_made : is_on made kind ≡ true
  pub is : OfClass p t place kind x

-- the same of one of the first so many classes
pub record OfPlaces (p : Program) (t : Tables) (made : List Bool) (count : ℕ) (x : Note) : Type 0 where
  pub place : ℕ
  pub class : Class
  pub before : place < count
  pub is_class : slice_get p.classes place ≡ Some class
  pub is : OfMade p t made place class.name x
