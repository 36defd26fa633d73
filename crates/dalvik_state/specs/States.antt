-- What the state of a run by numbers is by names, and what a run keeps.
use Rattle.std.specs.Prelude.{ℕ, ◌≡◌, ◌+◌, ◌-◌, ◌<◌, ◌≤◌, ◌^◌, Bool, true, false, List, [], ◌∷◌, map, length, drop, take, replicate, reverse, Option, Some, None, slice_get, slice_set, slice_index_or, vec_len, vec_capacity}
use Rattle.std.specs.Option.{option_and_then, option_map}
use Rattle.program_model.specs.declared.program.Program.{Program}
use Rattle.program_model.specs.declared.program.Class.{Class}
use Rattle.program_model.specs.declared.program.Method.{Method}
use Rattle.program_model.specs.Lookups as look
use Rattle.dalvik_lookups.specs.Views.{IsKind}
use Rattle.dalvik_lookups.specs.Slots.{slots_after}
use Rattle.dalvik_lookups.specs.Tables.{place_named}
use Rattle.dalvik_lookups.specs.declared.lookups.Lookups.{Lookups}
use Rattle.dalvik_lookups.specs.declared.types.Kind.{Kind}
use Rattle.dalvik_defs.specs.Names.{Text}
use Rattle.dalvik_defs.specs.Naming.{type_at, method_at}
use Rattle.dalvik_defs.specs.Show.{place_in}
use Rattle.dalvik_defs.specs.State.{Classes, Status, New, Running, Done, Failed, State, On, Ended}
use Rattle.dalvik_defs.specs.declared.state.Frame.{Frame as NamedFrame}
use Rattle.dalvik_defs.specs.declared.state.Waiting.{Waiting}
use Rattle.dalvik_defs.specs.declared.state.Waiting.TheVariants.{Method as InMethod, Initialiser, Ending, Outside}
use Rattle.dalvik_defs.specs.declared.script.Move.{Move}
use Rattle.dalvik_state.specs.declared.datum.Datum.{Datum}
use Rattle.dalvik_state.specs.declared.frame.Frame.{Frame}
use Rattle.dalvik_state.specs.declared.state.Status.{Status as OwnStatus}
use Rattle.dalvik_state.specs.declared.state.Status.TheVariants as status
use Rattle.dalvik_state.specs.declared.state.Waiting.{Waiting as OwnWaiting}
use Rattle.dalvik_state.specs.declared.state.Waiting.TheVariants as waiting
use Rattle.dalvik_state.specs.declared.state.State.{State as OwnState}
use Rattle.dalvik_state.specs.declared.world.Exposed.{Exposed}
use Rattle.dalvik_state.specs.declared.world.World.{World}
use Rattle.dalvik_state.specs.Worlds.{Shape, Plain, Array, Spot, IsShort, spots_of}
use Rattle.dalvik_state.specs.Views.{Names, names_in, exposed_of, frame_of, world_of, IsFineFrame, IsFineWorld}

-- ---- by names

abbrev pub status_of : OwnStatus → Status
status_of status.New = New
status_of status.Running = Running
status_of status.Done = Done
status_of status.Failed = Failed

-- the type of the class at a place
abbrev pub class_text : Program → ℕ → Text
class_text p c = elim (slice_get p.classes c) [ Some d ↦ type_at p d.name | None ↦ [] ]

-- how far the class at a place is
abbrev pub status_at : List OwnStatus → ℕ → OwnStatus
status_at statuses c = slice_index_or statuses c status.Done

-- a class that the program doesn't define stays new
abbrev pub classes_of : Program → List OwnStatus → Classes
classes_of p statuses t = elim (place_named p t) [ Some c ↦ status_of (status_at statuses c) | None ↦ New ]

-- the move at a place of the script, where a move waits there
abbrev pub move_of : List Move → Option ℕ → Option Move
move_of script pending = option_and_then (λ (place : ℕ). slice_get script place) pending

abbrev pub waiting_of : Names → List Move → OwnWaiting → Waiting
waiting_of n script (waiting.Method f) = InMethod (frame_of n f)
waiting_of n script (waiting.Initialiser class above next) = Initialiser (class_text n.program class) (map (class_text n.program) (drop next above.items))
waiting_of n script (waiting.Ending class) = Ending (class_text n.program class)
waiting_of n script (waiting.Outside owes pending) = Outside (option_map n.kind owes) (move_of script pending)

-- the stack by numbers has its top last, in a run of these moves
abbrev pub stack_of : Names → List Move → List OwnWaiting → List Waiting
stack_of n script stack = map (waiting_of n script) (reverse stack)

-- the frame on top
abbrev pub frame_in : OwnWaiting → Option Frame
frame_in (waiting.Method f) = Some f
frame_in w = None

abbrev pub top_frame : List OwnWaiting → Option Frame
top_frame stack = option_and_then frame_in (slice_get stack (length stack - 1))

-- ---- the top of the stack

-- an entry is a method whose frame is so
pub record IsInMethod (is_so : Frame → Type 0) (w : OwnWaiting) : Type 0 where
  pub frame : Frame
  pub is : w ≡ waiting.Method frame
  pub so : is_so frame

-- the frame of a method changes so, and any other entry stays
abbrev pub ChangesIn : (Frame → Frame → Type 0) → OwnWaiting → OwnWaiting → Type 0
ChangesIn changes (waiting.Method f) w = IsInMethod (changes f) w
ChangesIn changes v w = w ≡ v

-- the top of a stack is now a frame that is so, and all below it stays
pub record IsTopped (is_so : Frame → Type 0) (old new : List OwnWaiting) : Type 0 where
  pub frame : Frame
  pub stack : new ≡ slice_set old (length old - 1) (waiting.Method frame)
  pub so : is_so frame

-- the frame on top changes so, and all below it stays; where no frame is on top, nothing changes
pub record ChangesTop (changes : Frame → Frame → Type 0) (old new : List OwnWaiting) : Type 0 where
  pub top : (f : Frame) → top_frame old ≡ Some f → IsTopped (changes f) old new
  pub other : top_frame old ≡ None → new ≡ old

-- what stands below the top
abbrev pub below_top : List OwnWaiting → List OwnWaiting
below_top stack = take (length stack - 1) stack

-- by names a frame was on top, another one is, and all below it stays
pub record IsReplaced (n : Names) (script : List Move) (old new : List OwnWaiting) (f g : NamedFrame) : Type 0 where
  pub was : stack_of n script old ≡ InMethod f ∷ stack_of n script (below_top old)
  pub is : stack_of n script new ≡ InMethod g ∷ stack_of n script (below_top old)

-- the framework's frame waits with the move at a place of the script, or with none; any other entry stays
abbrev pub with_pending : Option ℕ → OwnWaiting → OwnWaiting
with_pending pending (waiting.Outside owes before) = waiting.Outside owes pending
with_pending pending w = w

-- so on top of a stack, and all below it stays
abbrev pub pending_top : Option ℕ → List OwnWaiting → List OwnWaiting
pending_top pending stack = elim (slice_get stack (length stack - 1)) [ Some w ↦ slice_set stack (length stack - 1) (with_pending pending w) | None ↦ stack ]

-- only the stack may change
pub record KeepsRest (old new : OwnState) : Type 0 where
  pub world : new.world ≡ old.world
  pub statuses : new.statuses ≡ old.statuses
  pub next : new.next ≡ old.next
  pub ended : new.ended ≡ old.ended

-- ---- the state

-- the state of a run of these moves
abbrev pub state_of : Names → List Move → OwnState → State
state_of n script s = elim s.ended [
  | true ↦ Ended
  | false ↦ On (world_of n s.world) (classes_of n.program s.statuses.items) (stack_of n script s.stack.items) (drop s.next script)
]

-- ---- what a run keeps

-- a type of the tables that is not too deep for arrays of it
pub record IsFineKind (l : Lookups) (k : Kind) : Type 0 where
  pub there : IsKind l.types k
  pub deep : k.depth < 2 ^ 63

-- types of the tables that are not too deep
pub record AreFineKinds (l : Lookups) (ks : List Kind) : Type 0 where
  pub at : (i : ℕ) (k : Kind) → slice_get ks i ≡ Some k → IsFineKind l k

abbrev pub kind_within : Shape → Kind
kind_within (Plain kind) = kind
kind_within (Array kind items) = kind

-- the objects and the items of arrays have types of the tables
pub record AreKinds (l : Lookups) (spots : List Spot) : Type 0 where
  pub at : (i : ℕ) (s : Spot) → slice_get spots i ≡ Some s → IsFineKind l (kind_within s.shape)

-- what was exposed is there, and each thing has the place that it has among what was exposed
pub record ArePlaced (spots : List Spot) (exposed : List Exposed) : Type 0 where
  pub below : (i : ℕ) (e : Exposed) → slice_get exposed i ≡ Some e → e.number < length spots
  pub at : (i : ℕ) (s : Spot) → slice_get spots i ≡ Some s → s.place ≡ place_in (map exposed_of exposed) i

-- the fields that were written are of objects that are there
pub record AreWritten (size : ℕ) (fields : List ((ℕ × ℕ) × Datum)) : Type 0 where
  pub at : (i : ℕ) (e : (ℕ × ℕ) × Datum) → slice_get fields i ≡ Some e → e.0.0 < size

-- a world as a run keeps it
pub record IsSound (l : Lookups) (w : World) : Type 0 where
  pub fine : IsFineWorld (names_in l) w
  pub kinds : AreKinds l (spots_of w)
  pub placed : ArePlaced (spots_of w) w.exposed.items
  pub written : AreWritten (length (spots_of w)) w.fields.entries
  pub short : IsShort (spots_of w)
  -- each field of the program has a place among the static ones
  pub statics : length w.statics.items ≡ slots_after 0 l.program.now.classes

-- a frame as a run keeps it: it is in the body of the method at its place
pub record IsSoundFrame (l : Lookups) (size : ℕ) (f : Frame) : Type 0 where
  pub fine : IsFineFrame (names_in l) size f
  pub own : Method
  pub class : Class
  pub found : look.method_at l.program.now f.at ≡ Some own
  pub body : own.body ≡ Some f.body.now
  pub name : own.name ≡ f.method
  pub within : slice_get l.program.now.classes f.at.class ≡ Some class
  pub of_class : type_at l.program.now class.name ≡ (method_at l.program.now f.method).class

-- classes by their places
pub record AreClasses (l : Lookups) (classes : List ℕ) : Type 0 where
  pub at : (i c : ℕ) → slice_get classes i ≡ Some c → c < length l.program.now.classes

abbrev pub IsOwed : Lookups → Option Kind → Type 0
IsOwed l None = Unit {0}
IsOwed l (Some kind) = IsFineKind l kind

abbrev pub IsSoundWaiting : Lookups → ℕ → OwnWaiting → Type 0
IsSoundWaiting l size (waiting.Method f) = IsSoundFrame l size f
IsSoundWaiting l size (waiting.Initialiser class above next) = AreClasses l (class ∷ above.items)
IsSoundWaiting l size (waiting.Ending class) = AreClasses l (class ∷ [])
IsSoundWaiting l size (waiting.Outside owes pending) = IsOwed l owes

-- a state of a run after so many steps: no position and no lock has grown more than once in a step
pub record IsRunning (l : Lookups) (steps : ℕ) (s : OwnState) : Type 0 where
  pub world : IsSound l s.world
  pub classes : length s.statuses.items ≡ length l.program.now.classes
  pub stack : (i : ℕ) (x : OwnWaiting) → slice_get s.stack.items i ≡ Some x → IsSoundWaiting l (length (spots_of s.world)) x
  pub paced : (i : ℕ) (f : Frame) → slice_get s.stack.items i ≡ Some (waiting.Method f) → f.position ≤ 2 ^ 32 + steps
  pub held : (i : ℕ) (e : Datum × ℕ) → slice_get s.world.locks.entries i ≡ Some e → e.1 ≤ steps

-- the state in which a run begins
pub record IsOpening (l : Lookups) (s : OwnState) : Type 0 where
  pub heap : spots_of s.world ≡ []
  pub fields : s.world.fields.entries ≡ []
  pub statics : s.world.statics.items ≡ replicate (slots_after 0 l.program.now.classes) None
  pub locks : s.world.locks.entries ≡ []
  pub exposed : s.world.exposed.items ≡ []
  pub statuses : s.statuses.items ≡ replicate (length l.program.now.classes) status.New
  pub stack : s.stack.items ≡ waiting.Outside None None ∷ []
  pub next : s.next ≡ 0
  pub ended : s.ended ≡ false

-- ---- room

-- there is room to expose so many more objects
pub record HasRoom (w : World) (count : ℕ) : Type 0 where
  pub room : vec_len w.exposed + count ≤ vec_capacity w.exposed

-- there is room for so many more objects on the heap
pub record HasSpace (w : World) (count : ℕ) : Type 0 where
  pub space : vec_len w.heap + count ≤ vec_capacity w.heap

-- there is room for so many more entries of the stack
pub record HasPlaces (s : OwnState) (count : ℕ) : Type 0 where
  pub places : vec_len s.stack + count ≤ vec_capacity s.stack
