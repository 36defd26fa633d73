-- What a step of a run begins with, and what it leaves: its state by names, what is kept of look-ups, and what is shown.
use Rattle.std.specs.Prelude.{ℕ, ◌≡◌, ◌+◌, ◌<◌, ◌^◌, false, List, drop, Option}
use Rattle.program_model.specs.declared.pass.Outside.{Outside as OwnOutside}
use Rattle.dalvik_lookups.specs.Facing.{run_face}
use Rattle.dalvik_lookups.specs.Reached.{constructed_kinds, IsOuter, AreTypeMarks}
use Rattle.dalvik_lookups.specs.Tables.{IsRight}
use Rattle.dalvik_lookups.specs.Walks.{IsKept}
use Rattle.dalvik_lookups.specs.declared.lookups.Lookups.{Lookups}
use Rattle.dalvik_lookups.specs.declared.memo.Memo.{Memo}
use Rattle.dalvik_defs.specs.Face.{Bodies, bodies_of}
use Rattle.dalvik_defs.specs.Happens.{Setting, happens}
use Rattle.dalvik_defs.specs.Naming.{named}
use Rattle.dalvik_defs.specs.Outcome.{Outcome, Need, need_of}
use Rattle.dalvik_defs.specs.Outer.{outer_of}
use Rattle.dalvik_defs.specs.Names.{Text}
use Rattle.dalvik_defs.specs.State.{World, Classes, Next, State as NamedState}
use Rattle.dalvik_defs.specs.declared.state.Waiting.{Waiting}
use Rattle.dalvik_defs.specs.declared.events.Event.{Event}
use Rattle.dalvik_defs.specs.declared.script.Move.{Move}
use Rattle.dalvik_defs.specs.declared.tables.Floats.{Floats}
use Rattle.dalvik_state.specs.Views.{frame_of, names_in, world_of}
use Rattle.dalvik_state.specs.States.{below_top, classes_of, stack_of, state_of, IsRunning}
use Rattle.dalvik_state.specs.declared.frame.Frame.{Frame}
use Rattle.dalvik_state.specs.declared.state.State.{State}

-- ---- by names

-- what the framework may reach
pub record IsReach (l : Lookups) (o : OwnOutside) : Type 0 where
  pub members : IsOuter l.program.now o l.outer
  pub classes : AreTypeMarks l.program.now l.types o.classes l.outer.classes.items
  pub constructed : AreTypeMarks l.program.now l.types (constructed_kinds l.program.now o.methods) l.outer.constructed.items

-- all that a run depends on beside the bodies, which are these
abbrev pub setting_in : Lookups → OwnOutside → Floats → Setting
setting_in l o floats = record { face = run_face l; outer = outer_of l.program.now o; floats = floats }

abbrev pub bodies_in : Lookups → Bodies
bodies_in l = bodies_of (named l.program.now)

abbrev pub world_in : Lookups → State → World
world_in l s = world_of (names_in l) s.world

abbrev pub classes_in : Lookups → State → Classes
classes_in l s = classes_of l.program.now s.statuses.items

abbrev pub need_in : Lookups → State → Text → Need
need_in l s = need_of (run_face l) (classes_in l s)

-- the stack, what stands below its top, and what is left of the script
abbrev pub stack_in : Lookups → List Move → State → List Waiting
stack_in l script s = stack_of (names_in l) script s.stack.items

abbrev pub below_in : Lookups → List Move → State → List Waiting
below_in l script s = stack_of (names_in l) script (below_top s.stack.items)

abbrev pub script_in : List Move → State → List Move
script_in script s = drop s.next script

-- what an outcome does, where this frame is on top
abbrev pub comes_of : Lookups → OwnOutside → Floats → List Move → State → Frame → Outcome → Next
comes_of l o floats script s f outcome =
    happens (setting_in l o floats) (bodies_in l) outcome (world_in l s) (classes_in l s) (frame_of (names_in l) f) (below_in l script s) (script_in script s)

-- ---- a step

-- Before a step: the tables are right, so is what is kept of look-ups, the run goes on, and it has made so many steps.
pub record IsRun (l : Lookups) (m : Memo) (steps : ℕ) (s : State) : Type 0 where
  pub right : IsRight l
  pub kept : IsKept l m
  pub state : IsRunning l steps s
  pub early : steps < 2 ^ 32
  pub on : s.ended ≡ false

-- After it: the state by names, where a run that goes on can make its next step, what is shown, and what is kept.
pub record IsLeft (l : Lookups) (steps : ℕ) (script : List Move) (s : State) (to : NamedState) : Type 0 where
  pub state : state_of (names_in l) script s ≡ to
  pub running : s.ended ≡ false → IsRunning l (steps + 1) s

pub record IsEvent (l : Lookups) (steps : ℕ) (script : List Move) (s : State) (event : Option Event) (next : Next) : Type 0 where
  pub left : IsLeft l steps script s next.0
  pub shown : event ≡ next.1

pub record IsNext (l : Lookups) (steps : ℕ) (script : List Move) (m : Memo) (s : State) (shown : Option Event) (next : Next) : Type 0 where
  pub event : IsEvent l steps script s shown next
  pub kept : IsKept l m

-- After want of memory nothing has been done: by names the state is as it was, and the step can be made again.
pub record IsUndone (l : Lookups) (steps : ℕ) (old new : State) : Type 0 where
  pub state : (script : List Move) → state_of (names_in l) script new ≡ state_of (names_in l) script old
  pub running : IsRunning l steps new
  pub on : new.ended ≡ false

pub record IsUndoneWith (l : Lookups) (steps : ℕ) (m : Memo) (old new : State) : Type 0 where
  pub undone : IsUndone l steps old new
  pub kept : IsKept l m
