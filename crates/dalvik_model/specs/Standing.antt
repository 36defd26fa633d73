-- The state of a machine by names, after so many steps.
use Rattle.std.specs.Prelude.{ℕ, ◌≡◌, ◌+◌, ◌<◌, Bool, true, false, List, [], Option, Some, None}
use Rattle.program_model.specs.declared.pass.Outside.{Outside}
use Rattle.program_model.specs.declared.program.Program.{Program}
use Rattle.program_model.specs.ProgramRules.{is_well_formed}
use Rattle.dalvik_defs.specs.Face.{Bodies, bodies_of}
use Rattle.dalvik_defs.specs.Happens.{Setting}
use Rattle.dalvik_defs.specs.Naming.{named}
use Rattle.dalvik_defs.specs.Outer.{outer_of}
use Rattle.dalvik_defs.specs.State.{State as NamedState, opening}
use Rattle.dalvik_defs.specs.Step.{after, setting_of, shows, shows_from, step}
use Rattle.dalvik_defs.specs.declared.events.Event.{Event}
use Rattle.dalvik_defs.specs.declared.script.Move.{Move}
use Rattle.dalvik_defs.specs.declared.tables.Floats.{Floats}
use Rattle.dalvik_defs.specs.declared.tables.Framework.{Framework}
use Rattle.dalvik_lookups.specs.Playing.{ArePlays}
use Rattle.dalvik_lookups.specs.Tables.{IsRight}
use Rattle.dalvik_lookups.specs.Walks.{IsKept}
use Rattle.dalvik_numbers.specs.Rows.{IsTable}
use Rattle.dalvik_state.specs.Runs.{IsReach}
use Rattle.dalvik_state.specs.States.{state_of, IsRunning}
use Rattle.dalvik_state.specs.Views.{names_in}
use Rattle.dalvik_state.specs.declared.state.Tables.{Tables}
use Rattle.dalvik_state.specs.declared.state.State.{State}
use Rattle.dalvik_state.specs.declared.state.Waiting.{Waiting}
use Rattle.dalvik_state.specs.declared.state.Waiting.TheVariants as waiting
use Rattle.dalvik_steps.specs.Backs.{last_of}
use Rattle.dalvik_lookups.specs.Accepting.{IsAccepted}
use Rattle.array_law.specs.Making.{MakesArrays}
use Rattle.dalvik_model.specs.declared.machine.Machine.{Machine}
use Rattle.dalvik_model.specs.declared.machine.Parts.{Parts}
use Rattle.dalvik_model.specs.declared.machine.Top.{Top}
use Rattle.dalvik_model.specs.declared.machine.Top.TheVariants as top

-- all that a run is of
pub record Subject : Type 0 where
  pub program : Program
  pub outside : Outside
  pub framework : Framework
  pub floats : Floats
  pub script : List Move

abbrev pub subject_of : Program → Outside → Framework → Floats → List Move → Subject
subject_of p o f a script = record { program = p; outside = o; framework = f; floats = a; script = script }

abbrev pub setting_for : Subject → Setting
setting_for s = setting_of (named s.program) (outer_of s.program s.outside) s.framework s.floats

abbrev pub bodies_for : Subject → Bodies
bodies_for s = bodies_of (named s.program)

-- what a run reads, by numbers
pub record AreTablesOf (s : Subject) (t : Tables) : Type 0 where
  pub program : t.lookups.program.now ≡ s.program
  pub framework : t.lookups.framework.now ≡ s.framework
  pub right : IsRight t.lookups
  pub reach : IsReach t.lookups s.outside
  pub floats : IsTable t.floats s.floats
  pub plays : ArePlays t.lookups.program.now t.lookups.types t.lookups.texts s.script t.plays.items

-- a run that has made so many steps is at a state by names
pub record IsRunOf (s : Subject) (steps : ℕ) (p : Parts) (to : NamedState) : Type 0 where
  pub tables : AreTablesOf s p.tables
  pub kept : IsKept p.tables.lookups p.memo
  pub state : state_of (names_in p.tables.lookups) s.script p.state ≡ to
  pub running : p.state.ended ≡ false → IsRunning p.tables.lookups steps p.state

-- one step later
pub record IsStepped (s : Subject) (steps : ℕ) (p : Parts) (event : Option Event) (from : NamedState) : Type 0 where
  pub run : IsRunOf s (steps + 1) p (step (setting_for s) (bodies_for s) from).0
  pub shown : event ≡ (step (setting_for s) (bodies_for s) from).1

-- ---- what is on top

abbrev pub top_as : Option Waiting → Top
top_as None = top.Nothing
top_as (Some (waiting.Method f)) = top.Method
top_as (Some (waiting.Initialiser class above next)) = top.Initialiser
top_as (Some (waiting.Ending class)) = top.Ending class
top_as (Some (waiting.Outside owes pending)) = top.Outside owes pending

-- of a run that hasn't ended
abbrev pub top_by : Bool → Option Waiting → Top
top_by true last = top.Nothing
top_by false last = top_as last

abbrev pub top_in : State → Top
top_in s = top_by s.ended (last_of s.stack.items)

-- ---- programs

-- a well-formed program whose classes have no fault
pub record IsSubject (s : Subject) : Type 0 where
  pub well : is_well_formed s.program ≡ true
  pub accepted : IsAccepted s.program

-- a well-formed program whose classes have a fault
pub record HasFault (p : Program) : Type 0 where
  pub well : is_well_formed p ≡ true
  pub refused : IsAccepted p → ⊥

-- the tables of a program, none where its classes have a fault
abbrev pub AreTables : Subject → Option Tables → Type 0
AreTables s None = IsAccepted s.program → ⊥
AreTables s (Some t) = IsAccepted s.program × AreTablesOf s t

-- a run at its beginning
abbrev pub Begins : Subject → Option Parts → Type 0
Begins s None = IsAccepted s.program → ⊥
Begins s (Some p) = IsAccepted s.program × IsRunOf s 0 p (opening s.script)

-- ---- machines

-- a machine has a run; it has none where the classes of its program have a fault
abbrev pub Runs : Subject → ℕ → Option Parts → NamedState → Type 0
Runs s steps None to = ⊥
Runs s steps (Some p) to = IsRunOf s steps p to

abbrev pub RunsNext : Subject → ℕ → Option Parts → Option Event → NamedState → Type 0
RunsNext s steps None event from = ⊥
RunsNext s steps (Some p) event from = IsStepped s steps p event from

pub record IsAt (s : Subject) (m : Machine) (to : NamedState) : Type 0 where
  pub run : Runs s m.steps m.run to

pub record IsAtNext (s : Subject) (m : Machine) (event : Option Event) (from : NamedState) : Type 0 where
  pub at : IsAt s m (step (setting_for s) (bodies_for s) from).0
  pub shown : event ≡ (step (setting_for s) (bodies_for s) from).1

-- a machine that has no run
pub record IsIdle (m : Machine) : Type 0 where
  pub none : m.run ≡ None

-- ---- what is shown

-- the events of so many steps of a program
abbrev pub shown_by : Subject → ℕ → List Event
shown_by s n = shows (named s.program) (outer_of s.program s.outside) s.framework s.floats s.script n

-- no step of a run makes an array of a type that is none
abbrev pub MakesOnlyArrays : Subject → ℕ → Type 0
MakesOnlyArrays s n = MakesArrays (setting_for s) (bodies_for s) (opening s.script) n

-- after so many steps these events have been shown
pub record HasShown (s : Subject) (n : ℕ) (m : Machine) (events : List Event) : Type 0 where
  pub at : IsAt s m (after (setting_for s) (bodies_for s) (opening s.script) n)
  pub are : events ≡ shows_from (setting_for s) (bodies_for s) (opening s.script) n

-- a machine without a run shows nothing
pub record ShowsNothing (m : Machine) (events : List Event) : Type 0 where
  pub idle : IsIdle m
  pub are : events ≡ []
