-- What becomes of a class that is needed, of a new object that is thrown, and of what enters a method, for the frame on top.
use Rattle.std.proofs.Common.{◌≡◌, ℕ, ◌+◌, ◌<◌, Bool, true, false, List, [], ◌∷◌, length, ap, refl, sym, subst, ◌∙◌}
use Rattle.std.specs.Prelude.{Option, Some, None, slice_get}
use Rattle.program_model.specs.declared.pass.Outside.{Outside}
use Rattle.dalvik_defs.specs.Happens.{happens}
use Rattle.dalvik_defs.specs.Known.{no_class}
use Rattle.dalvik_defs.specs.Names.{Text}
use Rattle.dalvik_defs.specs.Outcome.{faults, when_ready, Need, Outcome, Ready, Fresh, Broken, Starts, Enters, Raises}
use Rattle.dalvik_defs.specs.Stack.{enters, starts, throws_new, unwinds}
use Rattle.dalvik_defs.specs.State.{Next, World as NamedWorld, fresh, next_object, quiet, with_thing}
use Rattle.dalvik_defs.specs.declared.state.Value.{Value}
use Rattle.dalvik_defs.specs.declared.events.Event.{Event}
use Rattle.dalvik_defs.specs.declared.names.MethodKey.{MethodKey}
use Rattle.dalvik_defs.specs.declared.script.Move.{Move}
use Rattle.dalvik_defs.specs.declared.state.Waiting.{Waiting}
use Rattle.dalvik_defs.specs.declared.state.Waiting.TheVariants.{Method as InMethod}
use Rattle.dalvik_defs.specs.declared.tables.Floats.{Floats}
use Rattle.dalvik_lookups.specs.Facing.{run_face}
use Rattle.dalvik_lookups.specs.Views.{known_names, name_at}
use Rattle.dalvik_lookups.specs.Tables.{IsRight}
use Rattle.dalvik_lookups.specs.Walks.{IsKept}
use Rattle.dalvik_lookups.specs.declared.lookups.Lookups.{Lookups}
use Rattle.dalvik_lookups.specs.declared.memo.Memo.{Memo}
use Rattle.dalvik_lookups.proofs.Descriptors.{known_at}
use Rattle.dalvik_state.specs.declared.frame.Frame.{Frame}
use Rattle.dalvik_state.specs.declared.state.State.{State}
use Rattle.dalvik_state.specs.Runs.{below_in, bodies_in, classes_in, comes_of, need_in, script_in, stack_in, world_in, IsEvent, IsLeft, IsNext}
use Rattle.dalvik_state.specs.States.{class_text, stack_of, top_frame}
use Rattle.dalvik_state.specs.Views.{frame_of, names_in}
use Rattle.dalvik_state.proofs.Tops.{top_named}
use Rattle.dalvik_steps.specs.Entries.{thrown_by, HasFailed, IsReady, IsStarted}
use Rattle.dalvik_steps.specs.declared.throwing.Thrown.TheVariants as thrown

module _ (l : Lookups) (o : Outside) (floats : Floats) (script : List Move) (steps : ℕ) (old : State) (f : Frame) (top : top_frame old.stack.items ≡ Some f) where
  -- the stack with the frame on top
  stacked : stack_in l script old ≡ InMethod (frame_of (names_in l) f) ∷ below_in l script old
  stacked = top_named (names_in l) script old.stack.items f top

  -- what goes down a stack that is known
  at_stack : {X : Type 0} (P : X → Type 0) (step : List Waiting → X) → P (step (stack_in l script old)) → P (step (InMethod (frame_of (names_in l) f) ∷ below_in l script old))
  at_stack P step h = subst (λ (ws : List Waiting). P (step ws)) stacked h

  -- a new object of a known class is thrown
  pub faulted : IsRight l → (m : Memo) (new : State) (e : Option Event) (number : ℕ) (c : Text) → slice_get known_names number ≡ Some c
      → IsNext l steps script m new e (thrown_by l (thrown.New number) (world_in l old) (classes_in l old) (stack_in l script old) (script_in script old)) → IsNext l steps script m new e (comes_of l o floats script old f (faults (world_in l old) c))
  faulted r m new e number c known h =
      at_stack (IsNext l steps script m new e) (λ (ws : List Waiting). throws_new (run_face l) (bodies_in l) (world_in l old) (classes_in l old) c ws (script_in script old))
      (subst (λ (t : Text). IsNext l steps script m new e (throws_new (run_face l) (bodies_in l) (world_in l old) (classes_in l old) t (stack_in l script old) (script_in script old))) (known_at l.types r.tabled.named.types number c known) h)

  abbrev Comes : Memo → State → Option Event → Outcome → Type 0
  Comes m new e outcome = IsNext l steps script m new e (comes_of l o floats script old f outcome)

  -- a class that is needed is ready
  pub ready_next : (m : Memo) (new : State) (e : Option Event) (need : Need) (c : Text) (now : Outcome) → need ≡ Ready → Comes m new e now → Comes m new e (when_ready need (world_in l old) c now)
  ready_next m new e need c now is h = subst (λ (x : Need). Comes m new e (when_ready x (world_in l old) c now)) (sym is) h

  -- it was new, and has been started
  pub started_next : (m : Memo) (new : State) (class : ℕ) (c : Text) (now : Outcome) → class_text l.program.now class ≡ c → IsStarted l steps script m old new class → IsKept l m
      → Comes m new None (when_ready (need_in l old c) (world_in l old) c now)
  started_next m new class c now same h k =
      subst (λ (t : Text). Comes m new None (when_ready (need_in l old t) (world_in l old) t now)) same
      (subst (λ (x : Need). Comes m new None (when_ready x (world_in l old) (class_text l.program.now class) now)) (sym h.need) (record {
        event = record {
          left = at_stack (IsLeft l steps script new) (λ (ws : List Waiting). starts (run_face l) (bodies_in l) (world_in l old) (classes_in l old) (class_text l.program.now class) ws (script_in script old)) h.left;
          shown = refl;
        };
        kept = k;
      }))

  -- it had failed, and an error was thrown
  pub failed_next : (m : Memo) (new : State) (class : ℕ) (c : Text) (now : Outcome) (e : Option Event) → class_text l.program.now class ≡ c → HasFailed l steps script m old new class e
      → Comes m new e (when_ready (need_in l old c) (world_in l old) c now)
  failed_next m new class c now e same h =
      subst (λ (t : Text). Comes m new e (when_ready (need_in l old t) (world_in l old) t now)) same
      (subst (λ (x : Need). Comes m new e (when_ready x (world_in l old) (class_text l.program.now class) now)) (sym h.need)
      (at_stack (IsNext l steps script m new e) (λ (ws : List Waiting). throws_new (run_face l) (bodies_in l) (world_in l old) (classes_in l old) no_class ws (script_in script old)) h.next))

  -- a method is entered
  pub entered_next : (m : Memo) (new : State) (k : MethodKey) (values : List Value) → IsLeft l steps script new (enters (bodies_in l) (world_in l old) (classes_in l old) k values (stack_in l script old) (script_in script old)) → IsKept l m
      → Comes m new None (Enters k values)
  entered_next m new k values h kept = record {
    event = record {
      left = at_stack (IsLeft l steps script new) (λ (ws : List Waiting). enters (bodies_in l) (world_in l old) (classes_in l old) k values ws (script_in script old)) h;
      shown = refl;
    };
    kept = kept;
  }
