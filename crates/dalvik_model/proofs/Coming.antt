-- What comes of an effect of the frame on top, by names.
use Rattle.std.proofs.Common.{◌≡◌, ℕ, Bool, true, false, List, ◌∷◌, length, ap, refl, sym, subst, ◌∙◌}
use Rattle.std.specs.Prelude.{drop, IfOk, OnErr, Option, Some, None}
use Rattle.std.proofs.Common.{Result, Ok, Err}
use Rattle.std.specs.declared.alloc.AllocError.{AllocError}
use Rattle.program_model.specs.declared.pass.Outside.{Outside}
use Rattle.dalvik_defs.specs.Happens as name
use Rattle.dalvik_defs.specs.Effect.{Effect as NamedEffect}
use Rattle.dalvik_defs.specs.Outcome.{outcome, need_of}
use Rattle.dalvik_defs.specs.State.{On, Ended, State as NamedState, Classes, Next, World as NamedWorld}
use Rattle.dalvik_defs.specs.declared.state.Frame.{Frame as NamedFrame}
use Rattle.dalvik_defs.specs.declared.state.Waiting.{Waiting}
use Rattle.dalvik_defs.specs.declared.state.Waiting.TheVariants.{Method as InMethod}
use Rattle.dalvik_defs.specs.declared.events.Event.{Event}
use Rattle.dalvik_defs.specs.declared.script.Move.{Move}
use Rattle.dalvik_defs.specs.declared.tables.Floats.{Floats}
use Rattle.dalvik_lookups.specs.Facing.{run_face}
use Rattle.dalvik_lookups.specs.Walks.{IsKept}
use Rattle.dalvik_lookups.specs.declared.lookups.Lookups.{Lookups}
use Rattle.dalvik_lookups.specs.declared.memo.Memo.{Memo}
use Rattle.dalvik_state.specs.Effects.{effect_of}
use Rattle.dalvik_state.specs.Runs.{below_in, bodies_in, classes_in, comes_of, script_in, setting_in, stack_in, world_in, IsEvent, IsNext, IsRun, IsUndone, IsUndoneWith}
use Rattle.dalvik_state.specs.States.{below_top, classes_of, stack_of, state_of, top_frame, IsRunning}
use Rattle.dalvik_state.specs.Views.{frame_of, names_in, world_of, Names}
use Rattle.dalvik_state.specs.declared.effect.Effect.{Effect}
use Rattle.dalvik_state.specs.declared.effect.Effect.TheVariants as effect
use Rattle.dalvik_state.specs.declared.frame.Frame.{Frame}
use Rattle.dalvik_state.specs.declared.state.State.{State}
use Rattle.dalvik_state.proofs.Tops.{top_named}
use Rattle.dalvik_state.specs.Worlds.{spots_of}
use Rattle.dalvik_state.specs.declared.datum.Datum.{Datum}
use Rattle.dalvik_steps.specs.Entries.{thrown_by}
use Rattle.dalvik_steps.specs.Reaching.{FineMaybe, IsReading, IsStep, IsWriting}
use Rattle.dalvik_steps.specs.declared.fields.Reading.{Reading}
use Rattle.dalvik_steps.specs.declared.fields.Writing.{Writing}
use Rattle.dalvik_steps.specs.declared.throwing.Thrown.TheVariants as thrown
use Rattle.dalvik_act.specs.Acted.{IsOn, IsRead, IsStored}
use Rattle.dalvik_model.specs.Doing.{effect_outcome, form_effect, form_outcome, IsAhead, IsFruitless, IsBeyond, IsReached, IsStill}

-- a run whose effect lies ahead
pub run_of : (l : Lookups) (m : Memo) (steps : ℕ) (s : State) (f : Frame) (e : Effect) → IsAhead l m steps s f e → IsRunning l steps s → IsRun l m steps s
run_of l m steps s f e h r = record { right = h.right; kept = h.kept; state = r; early = h.early; on = h.on }

pub step_of : (l : Lookups) (m : Memo) (steps : ℕ) (s : State) (f : Frame) (e : Effect) → IsAhead l m steps s f e → IsRunning l steps s → IsStep l steps s f
step_of l m steps s f e h r = record { right = h.right; state = r; early = h.early; on = h.on; top = h.top }

-- a state that goes on, by its parts
going : (n : Names) (script : List Move) (s : State) (f : Frame) → s.ended ≡ false → top_frame s.stack.items ≡ Some f
    → state_of n script s ≡ On (world_of n s.world) (classes_of n.program s.statuses.items) (InMethod (frame_of n f) ∷ stack_of n script (below_top s.stack.items)) (drop s.next script)
going n script s f on top =
    ap (λ (b : Bool). elim b as (λ b. NamedState) [ true ↦ Ended | false ↦ On (world_of n s.world) (classes_of n.program s.statuses.items) (stack_of n script s.stack.items) (drop s.next script) ]) on
    ∙ ap (λ (ws : List Waiting). On (world_of n s.world) (classes_of n.program s.statuses.items) ws (drop s.next script)) (top_named n script s.stack.items f top)

-- the frame has gone on already
pub goes_next : (l : Lookups) (o : Outside) (floats : Floats) (script : List Move) (m : Memo) (steps : ℕ) (s : State) (f : Frame) → IsAhead l m steps s f effect.Goes → IsNext l steps script m s None (comes_of l o floats script s f (effect_outcome l s f effect.Goes))
goes_next l o floats script m steps s f h = record {
  event = record {
    left = record { state = going (names_in l) script s f h.on h.top; running = λ on. h.more };
    shown = refl;
  };
  kept = h.kept;
}

-- there is no step
pub stuck_next : (l : Lookups) (o : Outside) (floats : Floats) (script : List Move) (m : Memo) (steps : ℕ) (s : State) (f : Frame) → IsKept l m → IsNext l steps script m (record s { ended = true }) None (comes_of l o floats script s f (effect_outcome l s f effect.Stuck))
stuck_next l o floats script m steps s f kept = record {
  event = record {
    left = record { state = refl; running = λ on. absurd (cc) };
    shown = refl;
  };
  kept = kept;
}

-- ---- by results

-- what a step of the frame on top answers for an effect
abbrev pub Came : Lookups → ℕ → State → Frame → Outside → Floats → List Move → Memo → State → Effect → Result (Option Event) AllocError → Type 0
Came l steps s f o floats script m new e r = IfOk r (λ (ev : Option Event). IsNext l steps script m new ev (comes_of l o floats script s f (effect_outcome l s f e)))

pub came_event : (l : Lookups) (steps : ℕ) (script : List Move) (m : Memo) (new : State) (to : Next) (r : Result (Option Event) AllocError) → IsKept l m → IfOk r (λ (e : Option Event). IsEvent l steps script new e to) → IfOk r (λ (e : Option Event). IsNext l steps script m new e to)
came_event l steps script m new to (Ok e) k h = record { event = h; kept = k }
came_event l steps script m new to (Err x) k h = h

pub lost : (l : Lookups) (steps : ℕ) (m : Memo) (old new : State) (e : Effect) (r : Result (Option Event) AllocError) → IsBeyond e → OnErr r (IsUndoneWith l steps m old new) → OnErr r (IsFruitless l steps m old new e)
lost l steps m old new e (Ok x) b h = h
lost l steps m old new e (Err x) b h = record { beyond = b; undone = h }

pub lost_event : (l : Lookups) (steps : ℕ) (m : Memo) (old new : State) (e : Effect) (r : Result (Option Event) AllocError) → IsBeyond e → IsKept l m → OnErr r (IsUndone l steps old new) → OnErr r (IsFruitless l steps m old new e)
lost_event l steps m old new e (Ok x) b k h = h
lost_event l steps m old new e (Err x) b k h = record { beyond = b; undone = record { undone = h; kept = k } }

-- what is thrown goes down the stack from the frame on top
pub came_new : (l : Lookups) (steps : ℕ) (s : State) (f : Frame) (o : Outside) (floats : Floats) (script : List Move) (m : Memo) (new : State) (class : ℕ) (r : Result (Option Event) AllocError) → top_frame s.stack.items ≡ Some f
    → IfOk r (λ (e : Option Event). IsNext l steps script m new e (thrown_by l (thrown.New class) (world_in l s) (classes_in l s) (stack_in l script s) (script_in script s))) → Came l steps s f o floats script m new (effect.Faults class) r
came_new l steps s f o floats script m new class r top h = subst (λ (ws : List Waiting). IfOk r (λ (e : Option Event). IsNext l steps script m new e (thrown_by l (thrown.New class) (world_in l s) (classes_in l s) ws (script_in script s)))) (top_named (names_in l) script s.stack.items f top) h

pub came_value : (l : Lookups) (steps : ℕ) (s : State) (f : Frame) (o : Outside) (floats : Floats) (script : List Move) (m : Memo) (new : State) (d : Datum) (r : Result (Option Event) AllocError) → top_frame s.stack.items ≡ Some f
    → IfOk r (λ (e : Option Event). IsNext l steps script m new e (thrown_by l (thrown.Value d) (world_in l s) (classes_in l s) (stack_in l script s) (script_in script s))) → Came l steps s f o floats script m new (effect.Throws d) r
came_value l steps s f o floats script m new d r top h = subst (λ (ws : List Waiting). IfOk r (λ (e : Option Event). IsNext l steps script m new e (thrown_by l (thrown.Value d) (world_in l s) (classes_in l s) ws (script_in script s)))) (top_named (names_in l) script s.stack.items f top) h

on_fine : (l : Lookups) (size : ℕ) (on : Option Datum) → IsOn l size on → FineMaybe (names_in l) size on
on_fine l size None h = h
on_fine l size (Some d) h = h.fine

pub reading_of : (l : Lookups) (s : State) (r : Reading) → IsRead l (length (spots_of s.world)) r.field r.on → IsReading l s r
reading_of l s r h = record { field = h.field; on = on_fine l (length (spots_of s.world)) r.on h.on }

pub writing_of : (l : Lookups) (s : State) (w : Writing) → IsStored l (length (spots_of s.world)) w.field w.on w.value → IsWriting l s w
writing_of l s w h = record { field = h.read.field; on = on_fine l (length (spots_of s.world)) w.on h.read.on; value = h.value }

-- by what has come of the effect
pub came_by : (l : Lookups) (floats : Floats) (steps : ℕ) (m m' : Memo) (old mid new : State) (f : Frame) (e : Effect) (o : Outside) (script : List Move) (r : Result (Option Event) AllocError) → (h : IsReached l floats steps m old mid f e) → Came l steps mid h.frame o floats script m' new e r
    → comes_of l o floats script mid h.frame (effect_outcome l mid h.frame e) ≡ comes_of l o floats script old f (form_outcome l o floats old f)
    → IfOk r (λ (ev : Option Event). IsNext l steps script m' new ev (comes_of l o floats script old f (form_outcome l o floats old f)))
came_by l floats steps m m' old mid new f e o script r h came same = subst (λ (to : Next). IfOk r (λ (ev : Option Event). IsNext l steps script m' new ev to)) same came

-- ---- before and after the frame has been looked at

-- by names what comes depends on the effect, and where it lies ahead on the world and the frame that it begins with
abbrev comes_at : Lookups → Outside → Floats → List Move → State → NamedEffect → NamedWorld → NamedFrame → List Waiting → Classes → List Move → Next
comes_at l o floats script s e w f below classes moves = name.happens (setting_in l o floats) (bodies_in l) (outcome (run_face l) (need_of (run_face l) classes) e w f) w classes f below moves

module _ (l : Lookups) (o : Outside) (floats : Floats) (script : List Move) (old : State) (f : Frame) where
  abbrev n : Names
  n = names_in l

  -- an effect that lies ahead
  comes_still : (e : Effect) (new : State) (g : Frame) → IsStill l old new f g → effect_of n e (world_in l new) (frame_of n g) ≡ form_effect l o floats old.world f → below_in l script new ≡ below_in l script old → new.statuses ≡ old.statuses → new.next ≡ old.next
      → comes_of l o floats script new g (effect_outcome l new g e) ≡ comes_of l o floats script old f (form_outcome l o floats old f)
  comes_still e new g still same below statuses next = λ i.
      comes_at l o floats script old (same i) (still.world i) (still.frame i) (below i) (classes_of l.program.now (statuses i).items) (drop (next i) script)

  -- a frame that has gone on
  comes_goes : (new : State) (g : Frame) → effect_of n effect.Goes (world_in l new) (frame_of n g) ≡ form_effect l o floats old.world f → below_in l script new ≡ below_in l script old → new.statuses ≡ old.statuses → new.next ≡ old.next
      → comes_of l o floats script new g (effect_outcome l new g effect.Goes) ≡ comes_of l o floats script old f (form_outcome l o floats old f)
  comes_goes new g same below statuses next =
      (λ i. (On (world_in l new) (classes_of l.program.now (statuses i).items) (InMethod (frame_of n g) ∷ below i) (drop (next i) script), None))
      ∙ ap (λ (e : NamedEffect). comes_at l o floats script old e (world_in l old) (frame_of n f) (below_in l script old) (classes_in l old) (script_in script old)) same

  pub comes_reached : (steps : ℕ) (m : Memo) (e : Effect) (new : State) → (h : IsReached l floats steps m old new f e) → comes_of l o floats script new h.frame (effect_outcome l new h.frame e) ≡ comes_of l o floats script old f (form_outcome l o floats old f)
  comes_reached steps m effect.Goes new h = comes_goes new h.frame (h.effect o) (h.below script) h.statuses h.next
  comes_reached steps m (effect.Faults class) new h = comes_still (effect.Faults class) new h.frame h.still (h.effect o) (h.below script) h.statuses h.next
  comes_reached steps m (effect.Throws d) new h = comes_still (effect.Throws d) new h.frame h.still (h.effect o) (h.below script) h.statuses h.next
  comes_reached steps m (effect.Gives value) new h = comes_still (effect.Gives value) new h.frame h.still (h.effect o) (h.below script) h.statuses h.next
  comes_reached steps m (effect.Calls kind method args) new h = comes_still (effect.Calls kind method args) new h.frame h.still (h.effect o) (h.below script) h.statuses h.next
  comes_reached steps m (effect.Makes to kind) new h = comes_still (effect.Makes to kind) new h.frame h.still (h.effect o) (h.below script) h.statuses h.next
  comes_reached steps m (effect.Reads item to field on) new h = comes_still (effect.Reads item to field on) new h.frame h.still (h.effect o) (h.below script) h.statuses h.next
  comes_reached steps m (effect.Writes field on value) new h = comes_still (effect.Writes field on value) new h.frame h.still (h.effect o) (h.below script) h.statuses h.next
  comes_reached steps m (effect.Locks d) new h = comes_still (effect.Locks d) new h.frame h.still (h.effect o) (h.below script) h.statuses h.next
  comes_reached steps m (effect.Unlocks d) new h = comes_still (effect.Unlocks d) new h.frame h.still (h.effect o) (h.below script) h.statuses h.next
  comes_reached steps m effect.Stuck new h = comes_still effect.Stuck new h.frame h.still (h.effect o) (h.below script) h.statuses h.next

-- ---- where memory runs out

still_state : (l : Lookups) (floats : Floats) (steps : ℕ) (m : Memo) (old mid : State) (f : Frame) (e : Effect) (script : List Move) → old.ended ≡ false → top_frame old.stack.items ≡ Some f → (h : IsReached l floats steps m old mid f e) → IsStill l old mid f h.frame
    → state_of (names_in l) script mid ≡ state_of (names_in l) script old
still_state l floats steps m old mid f e script on top h still =
    going (names_in l) script mid h.frame h.ahead.on h.ahead.top
    ∙ (λ i. On (still.world i) (classes_of l.program.now (h.statuses i).items) (InMethod (still.frame i) ∷ h.below script i) (drop (h.next i) script))
    ∙ sym (going (names_in l) script old f on top)

fruitless_by : (l : Lookups) (floats : Floats) (steps : ℕ) (m m' : Memo) (old mid new : State) (f : Frame) (e : Effect) → old.ended ≡ false → top_frame old.stack.items ≡ Some f → (h : IsReached l floats steps m old mid f e) → IsStill l old mid f h.frame → IsUndoneWith l steps m' mid new
    → IsUndoneWith l steps m' old new
fruitless_by l floats steps m m' old mid new f e on top h still u = record {
  undone = record {
    state = λ script. u.undone.state script ∙ still_state l floats steps m old mid f e script on top h still;
    running = u.undone.running;
    on = u.undone.on;
  };
  kept = u.kept;
}

pub fruitless : (l : Lookups) (floats : Floats) (steps : ℕ) (m m' : Memo) (old mid new : State) (f : Frame) (e : Effect) → old.ended ≡ false → top_frame old.stack.items ≡ Some f → IsReached l floats steps m old mid f e → IsFruitless l steps m' mid new e → IsUndoneWith l steps m' old new
fruitless l floats steps m m' old mid new f effect.Goes on top h u = absurd u.beyond
fruitless l floats steps m m' old mid new f (effect.Faults class) on top h u = fruitless_by l floats steps m m' old mid new f (effect.Faults class) on top h h.still u.undone
fruitless l floats steps m m' old mid new f (effect.Throws d) on top h u = fruitless_by l floats steps m m' old mid new f (effect.Throws d) on top h h.still u.undone
fruitless l floats steps m m' old mid new f (effect.Gives value) on top h u = fruitless_by l floats steps m m' old mid new f (effect.Gives value) on top h h.still u.undone
fruitless l floats steps m m' old mid new f (effect.Calls kind method args) on top h u = fruitless_by l floats steps m m' old mid new f (effect.Calls kind method args) on top h h.still u.undone
fruitless l floats steps m m' old mid new f (effect.Makes to kind) on top h u = fruitless_by l floats steps m m' old mid new f (effect.Makes to kind) on top h h.still u.undone
fruitless l floats steps m m' old mid new f (effect.Reads item to field holder) on top h u = fruitless_by l floats steps m m' old mid new f (effect.Reads item to field holder) on top h h.still u.undone
fruitless l floats steps m m' old mid new f (effect.Writes field holder value) on top h u = fruitless_by l floats steps m m' old mid new f (effect.Writes field holder value) on top h h.still u.undone
fruitless l floats steps m m' old mid new f (effect.Locks d) on top h u = fruitless_by l floats steps m m' old mid new f (effect.Locks d) on top h h.still u.undone
fruitless l floats steps m m' old mid new f (effect.Unlocks d) on top h u = fruitless_by l floats steps m m' old mid new f (effect.Unlocks d) on top h h.still u.undone
fruitless l floats steps m m' old mid new f effect.Stuck on top h u = fruitless_by l floats steps m m' old mid new f effect.Stuck on top h h.still u.undone

pub fruitless_by_result : (l : Lookups) (floats : Floats) (steps : ℕ) (m m' : Memo) (old mid new : State) (f : Frame) (e : Effect) (r : Result (Option Event) AllocError) → old.ended ≡ false → top_frame old.stack.items ≡ Some f → IsReached l floats steps m old mid f e → OnErr r (IsFruitless l steps m' mid new e) → OnErr r (IsUndoneWith l steps m' old new)
fruitless_by_result l floats steps m m' old mid new f e (Ok x) on top h u = u
fruitless_by_result l floats steps m m' old mid new f e (Err x) on top h u = fruitless l floats steps m m' old mid new f e on top h u
