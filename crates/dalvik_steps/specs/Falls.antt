-- What is thrown takes the stack down on its way.
use Rattle.std.specs.Prelude.{ℕ, ◌≡◌, ◌+◌, ◌≤◌, Bool, false, List, length, nat_eq, reverse, slice_set, Option, Some, None}
use Rattle.dalvik_lookups.specs.declared.lookups.Lookups.{Lookups}
use Rattle.dalvik_lookups.specs.Facing.{run_face}
use Rattle.dalvik_defs.specs.Stack.{unwinds}
use Rattle.dalvik_defs.specs.State.{Next}
use Rattle.dalvik_defs.specs.declared.script.Move.{Move}
use Rattle.dalvik_state.specs.declared.datum.Datum.{Datum}
use Rattle.dalvik_state.specs.declared.state.State.{State}
use Rattle.dalvik_state.specs.declared.state.Status.TheVariants as status
use Rattle.dalvik_state.specs.declared.state.Waiting.{Waiting}
use Rattle.dalvik_state.specs.declared.state.Waiting.TheVariants as waiting
use Rattle.dalvik_state.specs.declared.world.World.{World as OwnWorld}
use Rattle.dalvik_state.specs.Runs.{bodies_in, classes_in, script_in, stack_in, world_in}
use Rattle.dalvik_state.specs.States.{below_top, HasRoom, HasSpace, IsRunning, IsSound}
use Rattle.dalvik_state.specs.Views.{names_in, value_of, world_of, IsFine}
use Rattle.dalvik_state.specs.Worlds.{spots_of}
use Rattle.dalvik_steps.specs.declared.throwing.Landing.{Landing}
use Rattle.dalvik_steps.specs.declared.throwing.Landing.TheVariants as landing
use Rattle.dalvik_steps.specs.Flights.{thrown_value, thrown_world, Flies}
use Rattle.dalvik_steps.specs.declared.throwing.Thrown.{Thrown}

-- It flies on from here, is replaced as noted, and lands there; by names the whole comes of what is left of the way.
pub record IsFalling (l : Lookups) (steps : ℕ) (script : List Move) (all : Next) (to : Landing) (s : State) (more : List ℕ) (d : Datum) : Type 0 where
  pub running : IsRunning l steps s
  pub on : s.ended ≡ false
  pub fine : IsFine (names_in l) (length (spots_of s.world)) d
  pub flies : Flies l (world_in l s) (value_of (names_in l) d) (reverse s.stack.items) more to
  pub whole : unwinds (run_face l) (bodies_in l) (world_in l s) (classes_in l s) (value_of (names_in l) d) (stack_in l script s) (script_in script s) ≡ all
  pub space : HasSpace s.world (length more)
  pub room : HasRoom s.world 1

-- it lands at a place
abbrev pub LandsThere : Landing → ℕ → Type 0
LandsThere (landing.Handler place position) at = place ≡ at
LandsThere (landing.Framework place shown) at = place ≡ at
LandsThere landing.Nowhere at = ⊥

-- it has come to where it lands
pub record HasFallen (l : Lookups) (steps : ℕ) (script : List Move) (all : Next) (to : Landing) (place : ℕ) (s : State) (d : Datum) : Type 0 where
  pub more : List ℕ
  pub falls : IsFalling l steps script all to s more d
  pub low : length s.stack.items ≤ place + 1

-- what is thrown, in the world with it
pub record IsThrownInto (l : Lookups) (t : Thrown) (count : ℕ) (old new : OwnWorld) (d : Datum) : Type 0 where
  pub value : value_of (names_in l) d ≡ thrown_value l (world_of (names_in l) old) t
  pub world : world_of (names_in l) new ≡ thrown_world l (world_of (names_in l) old) t
  pub fine : IsFine (names_in l) (length (spots_of new)) d
  pub sound : IsSound l new
  pub more : length (spots_of old) ≤ length (spots_of new)
  pub locks : new.locks ≡ old.locks
  pub space : HasSpace new count
  pub room : HasRoom new 1

-- ---- what is taken off the stack

-- the top of the stack is gone
pub record IsPopped (old new : State) : Type 0 where
  pub world : new.world ≡ old.world
  pub statuses : new.statuses ≡ old.statuses
  pub stack : new.stack.items ≡ below_top old.stack.items
  pub next : new.next ≡ old.next
  pub ended : new.ended ≡ old.ended

-- so is a class that has failed
pub record IsFailed (class : ℕ) (old new : State) : Type 0 where
  pub world : new.world ≡ old.world
  pub statuses : new.statuses.items ≡ slice_set old.statuses.items class status.Failed
  pub stack : new.stack.items ≡ below_top old.stack.items
  pub next : new.next ≡ old.next
  pub ended : new.ended ≡ old.ended

-- the class that fails where an entry is passed
abbrev pub failing : Waiting → Option ℕ
failing (waiting.Method f) = None
failing (waiting.Initialiser class above next) = Some class
failing (waiting.Ending class) = Some class
failing (waiting.Outside owes pending) = None

abbrev pub failing_of : Option Waiting → Option ℕ
failing_of (Some x) = failing x
failing_of None = None

abbrev pub DropsBy : Option ℕ → State → State → Type 0
DropsBy (Some class) old new = IsFailed class old new
DropsBy None old new = IsPopped old new

abbrev pub DropsTop : Option Waiting → State → State → Type 0
DropsTop o old new = DropsBy (failing_of o) old new

-- an object is replaced at a place of the stack
abbrev pub noted : Option ℕ → ℕ → Bool
noted (Some place) top = nat_eq place top
noted None top = false
