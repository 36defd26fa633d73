-- What is left to initialise before a class, and what its turn puts on the stack, by numbers.
use Rattle.std.specs.Prelude.{ℕ, ◌≡◌, ◌+◌, ◌<◌, Bool, true, false, List, [], ◌∷◌, length, drop, Option, Some, None}
use Rattle.dalvik_lookups.specs.declared.lookups.Lookups.{Lookups}
use Rattle.dalvik_lookups.specs.Facing.{run_face}
use Rattle.dalvik_defs.specs.Stack.{entry_frame}
use Rattle.dalvik_defs.specs.declared.names.MethodKey.{MethodKey}
use Rattle.dalvik_defs.specs.declared.program.NamedBody.{NamedBody}
use Rattle.dalvik_state.specs.declared.frame.Frame.{Frame}
use Rattle.dalvik_state.specs.declared.state.State.{State}
use Rattle.dalvik_state.specs.declared.state.Status.{Status}
use Rattle.dalvik_state.specs.declared.state.Status.TheVariants as status
use Rattle.dalvik_state.specs.declared.state.Waiting.{Waiting}
use Rattle.dalvik_state.specs.declared.state.Waiting.TheVariants as waiting
use Rattle.dalvik_state.specs.Runs.{bodies_in}
use Rattle.dalvik_state.specs.States.{class_text, IsSoundFrame}
use Rattle.dalvik_state.specs.Views.{frame_of, names_in}
use Rattle.dalvik_state.specs.Worlds.{spots_of, IsExposed}
use Rattle.dalvik_state.specs.declared.world.World.{World}
use Rattle.dalvik_steps.specs.declared.starting.Turn.{Turn}
use Rattle.dalvik_steps.specs.declared.starting.Turn.TheVariants as turn
use Rattle.dalvik_steps.specs.Entries.{takes}
use Rattle.dalvik_steps.specs.Needs.{status_at}

-- ---- what is left

-- a class that is neither running nor done comes first
abbrev pub hinders : Status → Bool
hinders status.New = true
hinders status.Running = false
hinders status.Done = false
hinders status.Failed = true

abbrev pub left_by : Status → List ℕ → List ℕ → List ℕ
left_by status.New here behind = here
left_by status.Running here behind = behind
left_by status.Done here behind = behind
left_by status.Failed here behind = here

-- the classes from the first on that is neither running nor done
abbrev pub left_in : List Status → List ℕ → List ℕ
left_in statuses [] = []
left_in statuses (c ∷ cs) = left_by (status_at statuses c) (c ∷ cs) (left_in statuses cs)

-- the place where what is left begins, none where nothing is
abbrev pub LeftAt : List ℕ → List ℕ → Option ℕ → Type 0
LeftAt above left None = left ≡ []
LeftAt above left (Some at) = (drop at above ≡ left) × (at < length above)

-- a class that is being initialised, and what is left of those before it from a place on
pub record IsLook (statuses : List Status) (class : ℕ) (above : List ℕ) (from : ℕ) (found : Option (ℕ × Option ℕ)) : Type 0 where
  pub rest : Option ℕ
  pub is : found ≡ Some (class, rest)
  pub left : LeftAt above (left_in statuses (drop from above)) rest

abbrev pub Looks : List Status → ℕ → Option Waiting → Option (ℕ × Option ℕ) → Type 0
Looks statuses more (Some (waiting.Initialiser class above next)) found = IsLook statuses class above.items (next + more) found
Looks statuses more other found = found ≡ None

-- an entry of the stack is no class that is being initialised
abbrev pub is_initialiser : Option Waiting → Bool
is_initialiser (Some (waiting.Initialiser class above next)) = true
is_initialiser other = false

-- what is left before a class begins at another place
abbrev pub waits_at : ℕ → Waiting → Waiting
waits_at place (waiting.Initialiser class above next) = waiting.Initialiser class above place
waits_at place other = other

-- ---- the turn of a class

-- the class that ends, and the frame of its initialiser where it has one
abbrev pub turn_entries : ℕ → Option Frame → List Waiting
turn_entries class None = waiting.Ending class ∷ []
turn_entries class (Some f) = waiting.Ending class ∷ waiting.Method f ∷ []

pub record IsTurnOf (l : Lookups) (size : ℕ) (class : ℕ) (f : Frame) : Type 0 where
  pub key : MethodKey
  pub is : (run_face l).initialiser (class_text l.program.now class) ≡ Some key
  pub body : NamedBody
  pub found : bodies_in l key ≡ Some body
  pub fits : takes (Some body) [] ≡ true
  pub frame : frame_of (names_in l) f ≡ entry_frame key [] body
  pub sound : IsSoundFrame l size f
  pub start : f.position ≡ 0

-- the frame of the initialiser of a class at its entry, none where it has none
abbrev pub IsTurn : Lookups → ℕ → ℕ → Option Frame → Type 0
IsTurn l size class None = (run_face l).initialiser (class_text l.program.now class) ≡ None
IsTurn l size class (Some f) = IsTurnOf l size class f

-- an initialiser that can't be entered
pub record HasNoTurn (l : Lookups) (class : ℕ) : Type 0 where
  pub key : MethodKey
  pub is : (run_face l).initialiser (class_text l.program.now class) ≡ Some key
  pub not : takes (bodies_in l key) [] ≡ false

abbrev pub ComesTurn : Lookups → ℕ → ℕ → Turn → Type 0
ComesTurn l size class (turn.Goes o) = IsTurn l size class o
ComesTurn l size class turn.Ends = HasNoTurn l class

-- ---- nothing has changed

-- a world has the same items
abbrev pub IsAsItWas : World → World → Type 0
IsAsItWas old new = IsExposed old new (spots_of old) old.exposed.items

-- nothing has changed but what there is room for
pub record IsReserved (old new : State) : Type 0 where
  pub world : IsAsItWas old.world new.world
  pub statuses : new.statuses.items ≡ old.statuses.items
  pub stack : new.stack.items ≡ old.stack.items
  pub next : new.next ≡ old.next
  pub ended : new.ended ≡ old.ended
