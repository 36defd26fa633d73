-- What the instruction of the frame on top does, before its effect reaches the stack.
use Rattle.std.specs.Prelude.{ℕ, ◌≡◌, ◌+◌, ◌<◌, ◌≤◌, ◌^◌, false, List, length, Some}
use Rattle.insn_set.specs.declared.form.Insn.{Insn}
use Rattle.program_model.specs.declared.pass.Outside.{Outside}
use Rattle.program_model.specs.declared.program.Program.{Program}
use Rattle.dalvik_defs.specs.Effect.{Effect as NamedEffect}
use Rattle.dalvik_defs.specs.Happens as name
use Rattle.dalvik_defs.specs.Outcome.{Outcome, outcome}
use Rattle.dalvik_defs.specs.Stack.{form_at}
use Rattle.dalvik_defs.specs.declared.script.Move.{Move}
use Rattle.dalvik_defs.specs.declared.tables.Floats.{Floats}
use Rattle.dalvik_lookups.specs.Facing.{run_face}
use Rattle.dalvik_lookups.specs.Tables.{IsRight}
use Rattle.dalvik_lookups.specs.Walks.{IsKept}
use Rattle.dalvik_lookups.specs.declared.lookups.Lookups.{Lookups}
use Rattle.dalvik_lookups.specs.declared.memo.Memo.{Memo}
use Rattle.dalvik_state.specs.Effects.{effect_of}
use Rattle.dalvik_state.specs.Frames.{IsSame, Leaves}
use Rattle.dalvik_state.specs.Runs.{below_in, bodies_in, need_in, setting_in, world_in, IsUndoneWith}
use Rattle.dalvik_state.specs.States.{top_frame, IsRunning, IsSound, IsSoundFrame}
use Rattle.dalvik_state.specs.Views.{frame_of, names_in, world_of}
use Rattle.dalvik_state.specs.Worlds.{spots_of, IsSameWorld, LeavesWorld}
use Rattle.dalvik_state.specs.declared.effect.Effect.{Effect}
use Rattle.dalvik_state.specs.declared.effect.Effect.TheVariants as effect
use Rattle.dalvik_state.specs.declared.frame.Frame.{Frame}
use Rattle.dalvik_state.specs.declared.state.State.{State}
use Rattle.dalvik_state.specs.declared.world.World.{World}
use Rattle.dalvik_act.specs.Acted.{NamesArray, IsFineEffect, insn_of}

-- where the next instruction of a frame makes an array, it names the type of one
pub record NamesNext (p : Program) (f : Frame) : Type 0 where
  pub next : (x : Insn) → insn_of f ≡ Some x → NamesArray p x

-- what the form at the frame's position does
abbrev pub form_effect : Lookups → Outside → Floats → World → Frame → NamedEffect
form_effect l o floats w f = name.effect_of (setting_in l o floats) (form_at (bodies_in l) (frame_of (names_in l) f)) (world_of (names_in l) w) (frame_of (names_in l) f)

-- what comes of it
abbrev pub form_outcome : Lookups → Outside → Floats → State → Frame → Outcome
form_outcome l o floats s f = name.outcome_at (setting_in l o floats) (bodies_in l) (need_in l s) (world_in l s) (frame_of (names_in l) f)

-- what comes of an effect by numbers
abbrev pub effect_outcome : Lookups → State → Frame → Effect → Outcome
effect_outcome l s f e = outcome (run_face l) (need_in l s) (effect_of (names_in l) e (world_in l s) (frame_of (names_in l) f)) (world_in l s) (frame_of (names_in l) f)

-- a frame and a world of a run after so many steps
pub record IsInRun (l : Lookups) (m : Memo) (steps : ℕ) (w : World) (f : Frame) : Type 0 where
  pub right : IsRight l
  pub kept : IsKept l m
  pub sound : IsSound l w
  pub frame : IsSoundFrame l (length (spots_of w)) f
  pub paced : f.position ≤ 2 ^ 32 + steps
  pub early : steps < 2 ^ 32
  pub next : NamesNext l.program.now f

-- the effect is that of the form at the position, and the run can go on
pub record IsForm (l : Lookups) (floats : Floats) (steps : ℕ) (w w' : World) (f f' : Frame) (e : Effect) : Type 0 where
  pub effect : (o : Outside) → effect_of (names_in l) e (world_of (names_in l) w') (frame_of (names_in l) f') ≡ form_effect l o floats w f
  pub fine : IsFineEffect l (length (spots_of w')) e
  pub sound : IsSound l w'
  pub frame : IsSoundFrame l (length (spots_of w')) f'
  pub paced : f'.position ≤ 2 ^ 32 + (steps + 1)
  pub more : length (spots_of w) ≤ length (spots_of w')
  pub locks : w'.locks ≡ w.locks
  pub left : Leaves e f f'
  pub world : LeavesWorld e w w'

-- nothing has been done in a frame and a world
pub record IsUndoneIn (w w' : World) (f f' : Frame) : Type 0 where
  pub world : IsSameWorld w w'
  pub frame : IsSame f f'

-- all but an effect that goes on in the frame
abbrev pub UnlessGoes : Effect → Type 0 → Type 0
UnlessGoes effect.Goes X = Unit {0}
UnlessGoes e X = X

abbrev pub IsBeyond : Effect → Type 0
IsBeyond effect.Goes = ⊥
IsBeyond e = Unit {0}

-- an effect of the frame on top: where it goes on, the step has been made, else all of it lies ahead
pub record IsAhead (l : Lookups) (m : Memo) (steps : ℕ) (s : State) (f : Frame) (e : Effect) : Type 0 where
  pub right : IsRight l
  pub kept : IsKept l m
  pub early : steps < 2 ^ 32
  pub on : s.ended ≡ false
  pub top : top_frame s.stack.items ≡ Some f
  pub fine : IsFineEffect l (length (spots_of s.world)) e
  pub more : IsRunning l (steps + 1) s
  pub still : UnlessGoes e (IsRunning l steps s)

-- want of memory, which an effect that goes on in the frame doesn't meet: nothing has been done
pub record IsFruitless (l : Lookups) (steps : ℕ) (m : Memo) (old new : State) (e : Effect) : Type 0 where
  pub beyond : IsBeyond e
  pub undone : IsUndoneWith l steps m old new

-- by names a state has not changed but in its next steps
pub record IsStill (l : Lookups) (old new : State) (f g : Frame) : Type 0 where
  pub world : world_in l new ≡ world_in l old
  pub frame : frame_of (names_in l) g ≡ frame_of (names_in l) f

-- the instruction on top has been looked at
pub record IsReached (l : Lookups) (floats : Floats) (steps : ℕ) (m : Memo) (old new : State) (f : Frame) (e : Effect) : Type 0 where
  pub frame : Frame
  pub ahead : IsAhead l m steps new frame e
  pub effect : (o : Outside) → effect_of (names_in l) e (world_in l new) (frame_of (names_in l) frame) ≡ form_effect l o floats old.world f
  pub below : (script : List Move) → below_in l script new ≡ below_in l script old
  pub statuses : new.statuses ≡ old.statuses
  pub next : new.next ≡ old.next
  pub still : UnlessGoes e (IsStill l old new f frame)
