-- What a method is entered with, what is thrown, and what becomes of a class that is needed.
use Rattle.std.specs.Prelude.{ℕ, ◌≡◌, ◌-◌, ◌<◌, Bool, true, false, List, [], ◌∷◌, ◌++◌, length, replicate, nat_eq, Option, Some, None}
use Rattle.std.specs.Option.{option_map}
use Rattle.program_model.specs.declared.body.Body.{Body}
use Rattle.program_model.specs.declared.program.Method.{Method}
use Rattle.program_model.specs.declared.program.MethodAt.{MethodAt}
use Rattle.dalvik_lookups.specs.Facing.{run_face}
use Rattle.dalvik_lookups.specs.Views.{name_at, known_names}
use Rattle.dalvik_lookups.specs.declared.lookups.Lookups.{Lookups}
use Rattle.dalvik_lookups.specs.declared.memo.Memo.{Memo}
use Rattle.dalvik_defs.specs.Known.{no_class}
use Rattle.dalvik_defs.specs.Names.{Text}
use Rattle.dalvik_defs.specs.Naming.{method_at}
use Rattle.dalvik_defs.specs.Outcome as name
use Rattle.dalvik_defs.specs.Show.{show_option}
use Rattle.dalvik_defs.specs.Stack.{entry_frame, starts, throws_new, unwinds}
use Rattle.dalvik_defs.specs.State.{World, Classes, Next}
use Rattle.dalvik_defs.specs.declared.state.Value.{Value}
use Rattle.dalvik_defs.specs.declared.state.Waiting.{Waiting}
use Rattle.dalvik_defs.specs.declared.events.Event.{Event}
use Rattle.dalvik_defs.specs.declared.events.Shown.{Shown}
use Rattle.dalvik_defs.specs.declared.program.NamedBody.{NamedBody}
use Rattle.dalvik_defs.specs.declared.script.Move.{Move}
use Rattle.dalvik_state.specs.declared.datum.Datum.{Datum}
use Rattle.dalvik_state.specs.declared.datum.Datum.TheVariants.{Word}
use Rattle.dalvik_state.specs.declared.frame.Frame.{Frame}
use Rattle.dalvik_state.specs.declared.state.State.{State}
use Rattle.dalvik_state.specs.declared.gifts.Gifts.{Gifts}
use Rattle.dalvik_state.specs.declared.world.World.{World as OwnWorld}
use Rattle.dalvik_state.specs.Drafts.{gift_spots, given_world}
use Rattle.dalvik_state.specs.Frames.{cell}
use Rattle.dalvik_state.specs.Giving.{IsGivenFine}
use Rattle.dalvik_state.specs.Runs.{bodies_in, classes_in, need_in, script_in, stack_in, world_in, IsLeft, IsNext}
use Rattle.dalvik_state.specs.States.{class_text, IsSound, IsSoundFrame}
use Rattle.dalvik_state.specs.Views.{frame_of, names_in, value_of, values_of, world_of, IsFine}
use Rattle.dalvik_state.specs.Worlds.{spots_of}
use Rattle.dalvik_steps.specs.declared.starting.Readied.{Readied}
use Rattle.dalvik_steps.specs.declared.starting.Readied.TheVariants as readied
use Rattle.dalvik_steps.specs.declared.throwing.Thrown.{Thrown}
use Rattle.dalvik_steps.specs.declared.throwing.Thrown.TheVariants as thrown

-- ---- entries

-- a frame at the entry of a body, by numbers
pub record IsAtEntry (place : MethodAt) (number : ℕ) (code : Body) (values : List Datum) (f : Frame) : Type 0 where
  pub at : f.at ≡ place
  pub method : f.method ≡ number
  pub body : f.body.now ≡ code
  pub position : f.position ≡ 0
  pub registers : f.registers.items ≡ replicate (code.registers - code.ins) (Word 0) ++ values
  pub result : f.result ≡ Word 0
  pub caught : f.caught ≡ Word 0

-- that of a body that takes so many values
pub record IsWithinOf (place : MethodAt) (number : ℕ) (code : Body) (values : List Datum) (f : Frame) : Type 0 where
  pub fits : nat_eq (length values) code.ins ≡ true
  pub entry : IsAtEntry place number code values f

abbrev pub IsWithin : MethodAt → ℕ → Body → List Datum → Option Frame → Type 0
IsWithin place number code values None = nat_eq (length values) code.ins ≡ false
IsWithin place number code values (Some f) = IsWithinOf place number code values f

-- there is code, which takes so many values
abbrev pub takes_in : Option Body → List Datum → Bool
takes_in None values = false
takes_in (Some code) values = nat_eq (length values) code.ins

abbrev pub takes : Option NamedBody → List Value → Bool
takes None values = false
takes (Some body) values = nat_eq (length values) body.ins

pub record IsFirstOf (place : MethodAt) (own : Method) (values : List Datum) (f : Frame) : Type 0 where
  pub code : Body
  pub coded : own.body ≡ Some code
  pub within : IsWithinOf place own.name code values f

-- that of a method, none where it has no code that takes these values
abbrev pub IsFirst : MethodAt → Method → List Datum → Option Frame → Type 0
IsFirst place own values None = takes_in own.body values ≡ false
IsFirst place own values (Some f) = IsFirstOf place own values f

-- the frame of a method with code at its entry
pub record IsEntered (l : Lookups) (size : ℕ) (own : Method) (values : List Datum) (f : Frame) : Type 0 where
  pub body : NamedBody
  pub found : bodies_in l (method_at l.program.now own.name) ≡ Some body
  pub fits : takes (Some body) (values_of (names_in l) values) ≡ true
  pub frame : frame_of (names_in l) f ≡ entry_frame (method_at l.program.now own.name) (values_of (names_in l) values) body
  pub sound : IsSoundFrame l size f
  pub start : f.position ≡ 0

-- there is none where it has no code that takes these values
abbrev pub IsEntry : Lookups → ℕ → Method → List Datum → Option Frame → Type 0
IsEntry l size own values None = takes (bodies_in l (method_at l.program.now own.name)) (values_of (names_in l) values) ≡ false
IsEntry l size own values (Some f) = IsEntered l size own values f

-- a value that may be none, which is there with the objects of a move
abbrev pub AreGivenFine : Lookups → OwnWorld → Gifts → Option Datum → Type 0
AreGivenFine l w g None = Unit {0}
AreGivenFine l w g (Some d) = IsGivenFine l w g d

-- the objects of a move are given, and then a value is shown
pub record ShowsGiven (l : Lookups) (g : Gifts) (kind : Text) (value : Option Datum) (old new : OwnWorld) (s : Option Shown) : Type 0 where
  pub shown : show_option (given_world (names_in l) old g) kind (option_map (value_of (names_in l)) value) ≡ (world_of (names_in l) new, s)
  pub sound : IsSound l new
  pub spots : length (spots_of new) ≡ length (gift_spots old g)
  pub locks : new.locks ≡ old.locks

-- what the first of some registers holds, null without one
abbrev pub first_cell : List Datum → List ℕ → Datum
first_cell cells [] = Word 0
first_cell cells (r ∷ rest) = cell cells r

-- ---- what is thrown

-- a value that there is, or a new object of a type that the machine knows
abbrev pub IsThrown : Lookups → ℕ → Thrown → Type 0
IsThrown l size (thrown.Value d) = IsFine (names_in l) size d
IsThrown l size (thrown.New class) = class < 20

-- it goes down the stack
abbrev pub thrown_by : Lookups → Thrown → World → Classes → List Waiting → List Move → Next
thrown_by l (thrown.Value d) w classes stack script = unwinds (run_face l) (bodies_in l) w classes (value_of (names_in l) d) stack script
thrown_by l (thrown.New class) w classes stack script = throws_new (run_face l) (bodies_in l) w classes (name_at l.types class) stack script

-- ---- classes that are needed

pub record IsReady (l : Lookups) (old new : State) (class : ℕ) : Type 0 where
  pub need : need_in l old (class_text l.program.now class) ≡ name.Ready
  pub same : new ≡ old

pub record IsStarted (l : Lookups) (steps : ℕ) (script : List Move) (m : Memo) (old new : State) (class : ℕ) : Type 0 where
  pub need : need_in l old (class_text l.program.now class) ≡ name.Fresh
  pub left : IsLeft l steps script new (starts (run_face l) (bodies_in l) (world_in l old) (classes_in l old) (class_text l.program.now class) (stack_in l script old) (script_in script old))

pub record HasFailed (l : Lookups) (steps : ℕ) (script : List Move) (m : Memo) (old new : State) (class : ℕ) (event : Option Event) : Type 0 where
  pub need : need_in l old (class_text l.program.now class) ≡ name.Broken
  pub next : IsNext l steps script m new event (throws_new (run_face l) (bodies_in l) (world_in l old) (classes_in l old) no_class (stack_in l script old) (script_in script old))

-- a class is ready, and nothing has changed; or it was new and has been started; or it had failed, and an error was thrown
abbrev pub IsReadied : Lookups → ℕ → List Move → Memo → State → State → ℕ → Readied → Type 0
IsReadied l steps script m old new class readied.Ready = IsReady l old new class
IsReadied l steps script m old new class readied.Started = IsStarted l steps script m old new class
IsReadied l steps script m old new class (readied.Failed event) = HasFailed l steps script m old new class event
