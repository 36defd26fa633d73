-- What a move leaves behind: the run that is over, the moves that are left, the world that has changed.
use Rattle.std.proofs.Common.{◌≡◌, ℕ, ◌+◌, ◌-◌, ◌≤◌, Bool, true, false, true≢false, List, [], ◌∷◌, length, Result, Ok, Err, ap, refl, sym, subst, ◌∙◌}
use Rattle.std.specs.Prelude.{drop, Option, Some, None, OnErr}
use Rattle.std.specs.Option.{option_map}
use Rattle.program_model.specs.declared.pass.Outside.{Outside as OwnOutside}
use Rattle.dalvik_defs.specs.State.{Next, On, Ended, quiet, State as NamedState}
use Rattle.dalvik_defs.specs.declared.events.Event.{Event}
use Rattle.dalvik_defs.specs.declared.script.Move.{Move}
use Rattle.dalvik_defs.specs.declared.state.Waiting.{Waiting as NamedWaiting}
use Rattle.dalvik_defs.specs.declared.state.Waiting.TheVariants.{Outside}
use Rattle.dalvik_lookups.specs.Views.{type_text, IsKind}
use Rattle.dalvik_lookups.specs.Walks.{IsKept}
use Rattle.dalvik_lookups.specs.declared.lookups.Lookups.{Lookups}
use Rattle.dalvik_lookups.specs.declared.memo.Memo.{Memo}
use Rattle.dalvik_lookups.specs.declared.types.Kind.{Kind}
use Rattle.dalvik_state.specs.declared.state.State.{State}
use Rattle.dalvik_state.specs.declared.state.Waiting.{Waiting as OwnWaiting}
use Rattle.dalvik_state.specs.declared.state.Waiting.TheVariants as waiting
use Rattle.dalvik_state.specs.declared.world.World.{World}
use Rattle.dalvik_state.specs.Runs.{below_in, classes_in, script_in, stack_in, world_in, IsEvent, IsNext, IsUndone, IsUndoneWith}
use Rattle.dalvik_state.specs.States.{classes_of, pending_top, stack_of, state_of, IsRunning, IsSound}
use Rattle.dalvik_state.specs.Views.{names_in, world_of}
use Rattle.dalvik_state.specs.Worlds.{spots_of}
use Rattle.dalvik_state.proofs.Running.{pending_named, popped_named, running_more, running_pending, running_world}
use Rattle.dalvik_moves.specs.Moving.{freed_in, waits_with, IsDone, IsMoving, IsTurned}

-- ---- the run is over

pub over_event : (l : Lookups) (steps : ℕ) (script : List Move) (s : State) → IsEvent l steps script (record s { ended = true }) None (quiet Ended)
over_event l steps script s = record { left = record { state = refl; running = λ e. absurd (true≢false e) }; shown = refl }

pub over : (l : Lookups) (steps : ℕ) (script : List Move) (m : Memo) (s : State) → IsKept l m → IsNext l steps script m (record s { ended = true }) None (quiet Ended)
over l steps script m s k = record { event = over_event l steps script s; kept = k }

-- a definition that comes to the end of the run
pub over_as : (l : Lookups) (steps : ℕ) (script : List Move) (m : Memo) (s : State) (to : Next) → IsKept l m → to ≡ quiet Ended → IsNext l steps script m (record s { ended = true }) None to
over_as l steps script m s to k e = subst (IsNext l steps script m (record s { ended = true }) None) (sym e) (over l steps script m s k)

pub event_as : (l : Lookups) (steps : ℕ) (script : List Move) (s : State) (e : Option Event) (a b : Next) → a ≡ b → IsEvent l steps script s e a → IsEvent l steps script s e b
event_as l steps script s e a b same h = subst (IsEvent l steps script s e) same h

pub next_as : (l : Lookups) (steps : ℕ) (script : List Move) (m : Memo) (s : State) (e : Option Event) (a b : Next) → IsKept l m → a ≡ b → IsEvent l steps script s e a → IsNext l steps script m s e b
next_as l steps script m s e a b k same h = record { event = event_as l steps script s e a b same h; kept = k }

-- ---- a state by its parts

-- a run goes on where another move waits or comes next
pub turned_runs : (l : Lookups) (steps : ℕ) (old new : State) (pending : Option ℕ) (next : ℕ) → IsTurned pending next old new → IsRunning l steps old → IsRunning l steps new
turned_runs l steps old new pending next t r =
    let kept : State = record new { next = old.next } in
    let run = running_pending l steps old kept pending r (record { world = t.world; statuses = t.statuses; next = refl; ended = t.ended }) t.stack in
    record { world = run.world; classes = run.classes; stack = run.stack; paced = run.paced; held = run.held }

pub state_on : (l : Lookups) (script : List Move) (s : State) → s.ended ≡ false → state_of (names_in l) script s ≡ On (world_in l s) (classes_in l s) (stack_in l script s) (script_in script s)
state_on l script s e = ap (λ (b : Bool). elim b as (λ b. NamedState) [ true ↦ Ended | false ↦ On (world_in l s) (classes_in l s) (stack_in l script s) (script_in script s) ]) e

-- the framework's frame on top, by names
pub top_owes : (l : Lookups) (o : OwnOutside) (m : Memo) (script : List Move) (steps : ℕ) (s : State) (owes : Option Kind) (first : Move) (rest : List Move) → IsMoving l o m script steps s owes first rest
    → stack_in l script s ≡ Outside (option_map (type_text l.types) owes) (Some first) ∷ below_in l script s
top_owes l o m script steps s owes first rest h =
    popped_named (names_in l) script s.stack.items (waiting.Outside owes (Some h.place)) h.top
    ∙ ap (λ (move : Option Move). Outside (option_map (type_text l.types) owes) move ∷ below_in l script s) h.waits

pub freed_owes : (l : Lookups) (o : OwnOutside) (m : Memo) (script : List Move) (steps : ℕ) (s : State) (owes : Option Kind) (first : Move) (rest : List Move) → IsMoving l o m script steps s owes first rest
    → freed_in l script s ≡ Outside (option_map (type_text l.types) owes) None ∷ below_in l script s
freed_owes l o m script steps s owes first rest h = ap (waits_with None) (top_owes l o m script steps s owes first rest h)

-- the stack of a move that is done
pub freed_named : (l : Lookups) (o : OwnOutside) (m : Memo) (script : List Move) (steps : ℕ) (s : State) (owes : Option Kind) (first : Move) (rest : List Move) → IsMoving l o m script steps s owes first rest
    → (items : List OwnWaiting) → items ≡ pending_top None s.stack.items → stack_of (names_in l) script items ≡ freed_in l script s
freed_named l o m script steps s owes first rest h items e =
    ap (stack_of (names_in l) script) e
    ∙ pending_named (names_in l) script None s.stack.items owes (Some h.place) h.top
    ∙ sym (freed_owes l o m script steps s owes first rest h)

-- only the world has changed, and the move is done
pub world_done : (l : Lookups) (o : OwnOutside) (m : Memo) (script : List Move) (steps : ℕ) (s : State) (owes : Option Kind) (first : Move) (rest : List Move) (w : World) (new : State) (shown : Option Event)
    → IsMoving l o m script steps s owes first rest → IsSound l w → length (spots_of s.world) ≤ length (spots_of w) → w.locks ≡ s.world.locks → IsDone (record s { world = w }) new
    → IsEvent l steps script new shown (On (world_of (names_in l) w) (classes_in l s) (freed_in l script s) rest, shown)
world_done l o m script steps s owes first rest w new shown h sound more locks done =
    record {
      left = record {
        state = state_on l script new (done.ended ∙ h.run.on)
            ∙ ap (λ (v : World). On (world_of (names_in l) v) (classes_in l new) (stack_in l script new) (script_in script new)) done.world
            ∙ ap (λ v. On (world_of (names_in l) w) (classes_of l.program.now v.items) (stack_in l script new) (script_in script new)) done.statuses
            ∙ ap (λ (ws : List NamedWaiting). On (world_of (names_in l) w) (classes_in l s) ws (script_in script new)) (freed_named l o m script steps s owes first rest h new.stack.items done.stack)
            ∙ ap (λ (k : ℕ). On (world_of (names_in l) w) (classes_in l s) (freed_in l script s) (drop k script)) done.next
            ∙ ap (λ (ms : List Move). On (world_of (names_in l) w) (classes_in l s) (freed_in l script s) ms) h.left;
        running = λ e. turned_runs l (steps + 1) (record s { world = w }) new None s.next done (running_more l steps (record s { world = w }) (running_world l steps s (record s { world = w }) h.run.state sound more locks refl refl));
      };
      shown = refl;
    }

-- the type that is owed stands in the tables
pub owed_kind : (l : Lookups) (o : OwnOutside) (m : Memo) (script : List Move) (steps : ℕ) (s : State) (kind : Kind) (first : Move) (rest : List Move) → IsMoving l o m script steps s (Some kind) first rest → IsKind l.types kind
owed_kind l o m script steps s kind first rest h = let fine = h.run.state.stack (length s.stack.items - 1) (waiting.Outside (Some kind) (Some h.place)) h.top in fine.there

-- ---- what is undone

-- what holds anyway holds after an error
pub on_err : {X Y : Type 0} (r : Result X Y) (P : Type 0) → P → OnErr r P
on_err (Ok x) P p = tt
on_err (Err e) P p = p

pub undone_kept : (l : Lookups) (steps : ℕ) (m : Memo) (old new : State) → IsKept l m → IsUndone l steps old new → IsUndoneWith l steps m old new
undone_kept l steps m old new k u = record { undone = u; kept = k }

pub undone_itself : (l : Lookups) (steps : ℕ) (m : Memo) (s : State) → IsKept l m → IsRunning l steps s → s.ended ≡ false → IsUndoneWith l steps m s s
undone_itself l steps m s k r e = record { undone = record { state = λ script. refl; running = r; on = e }; kept = k }
