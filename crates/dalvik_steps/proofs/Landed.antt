-- What comes of a thrown object where it lands.
use Rattle.std.proofs.Common.{◌≡◌, ℕ, ◌+◌, ◌-◌, ◌<◌, ◌≤◌, Bool, true, false, List, [], ◌∷◌, length, map, drop, arith, ap, refl, sym, subst, ◌∙◌}
use Rattle.std.specs.Prelude.{◌^◌, Option, Some, None, reverse, slice_get}
use Rattle.std.specs.Option.{option_and_then, option_map}
use Rattle.std.proofs.lemmas.List.{length-reverse}
use Rattle.class_defs.proofs.Positions.{entry_at}
use Rattle.dalvik_defs.specs.Effect.{go}
use Rattle.dalvik_defs.specs.Names.{Text, throwable_type}
use Rattle.dalvik_defs.specs.Show.{show}
use Rattle.dalvik_defs.specs.Stack.{lands_or, unwinds}
use Rattle.dalvik_defs.specs.State.{Next, On, Ended, World, quiet}
use Rattle.dalvik_defs.specs.declared.events.Event.{Event}
use Rattle.dalvik_defs.specs.declared.events.Event.TheVariants as event
use Rattle.dalvik_defs.specs.declared.events.Shown.{Shown}
use Rattle.dalvik_defs.specs.declared.script.Move.{Move}
use Rattle.dalvik_defs.specs.declared.state.Frame.{Frame as NamedFrame}
use Rattle.dalvik_defs.specs.declared.state.Waiting.{Waiting as NamedWaiting}
use Rattle.dalvik_defs.specs.declared.state.Waiting.TheVariants.{Method as InMethod, Outside}
use Rattle.dalvik_lookups.specs.Facing.{run_face}
use Rattle.dalvik_lookups.specs.Tables.{IsRight}
use Rattle.dalvik_lookups.specs.declared.lookups.Lookups.{Lookups}
use Rattle.dalvik_state.specs.declared.datum.Datum.{Datum}
use Rattle.dalvik_state.specs.declared.frame.Frame.{Frame}
use Rattle.dalvik_state.specs.declared.state.State.{State}
use Rattle.dalvik_state.specs.declared.state.Waiting.{Waiting}
use Rattle.dalvik_state.specs.declared.state.Waiting.TheVariants as waiting
use Rattle.dalvik_state.specs.declared.world.World.{World as OwnWorld}
use Rattle.dalvik_state.specs.Drafts.{IsShown}
use Rattle.dalvik_state.specs.Frames.{Handles}
use Rattle.dalvik_state.specs.Runs.{bodies_in, classes_in, script_in, stack_in, world_in, IsEvent}
use Rattle.dalvik_state.specs.States.{below_top, classes_of, frame_in, pending_top, stack_of, top_frame, ChangesTop, IsRunning, IsSoundWaiting, KeepsRest}
use Rattle.dalvik_state.specs.Views.{frame_of, names_in, value_of, world_of}
use Rattle.dalvik_state.specs.Worlds.{spots_of}
use Rattle.dalvik_state.proofs.Running.{pending_named, popped_named, running_handles, running_more, running_pending, running_stack, running_world, top_sound}
use Rattle.dalvik_state.proofs.Tops.{stack_handles}
use Rattle.dalvik_steps.specs.declared.throwing.Exhibit.{Exhibit}
use Rattle.dalvik_steps.specs.declared.throwing.Landing.{Landing}
use Rattle.dalvik_steps.specs.declared.throwing.Landing.TheVariants as landing
use Rattle.dalvik_steps.specs.Backs.{last_of}
use Rattle.dalvik_steps.specs.Falls.{IsFalling, LandsThere}
use Rattle.dalvik_steps.specs.Flights.{lands_at, Exhibits, Flies}
use Rattle.dalvik_steps.proofs.Falling.{below_count, flies_low, flies_nowhere, handled, lands_named, reached, reversed_sound, top_first, HandlesAt, ReachesAt}
use Rattle.dalvik_steps.proofs.Handing.{no_running, state_on, state_over}

module _ (l : Lookups) (r : IsRight l) (steps : ℕ) (script : List Move) (all : Next) (old : State) (more : List ℕ) (d : Datum) where
  -- the entry at which it lands
  pub record LandsOn (to : Landing) (place : ℕ) : Type 0 where
    pub top : Waiting
    pub is : last_of old.stack.items ≡ Some top
    pub flies : Flies l (world_in l old) (value_of (names_in l) d) (top ∷ reverse (below_top old.stack.items)) more to
    pub low : length (reverse (below_top old.stack.items)) ≤ place

  pub lands_on : (to : Landing) (place : ℕ) → IsFalling l steps script all to old more d → LandsThere to place → length old.stack.items ≤ place + 1 → LandsOn to place
  lands_on to place h t low =
      let below = flies_low l (world_in l old) (value_of (names_in l) d) (reverse old.stack.items) more to place h.flies t in
      let long = length-reverse old.stack.items in
      let count = below_count old.stack.items in
      let top = entry_at old.stack.items (length old.stack.items - 1) (omega (arith, below, long)) in
      record {
        top = top.0;
        is = top.1;
        flies = subst (λ (ws : List Waiting). Flies l (world_in l old) (value_of (names_in l) d) ws more to) (top_first old.stack.items top.0 top.1) h.flies;
        low = omega (arith, count, low);
      }

  pub lands_handler : (new : State) (place at : ℕ) → IsFalling l steps script all (landing.Handler place at) old more d → length old.stack.items ≤ place + 1 → at < 2 ^ 32
      → ChangesTop (λ (f g : Frame). Handles f g at d) old.stack.items new.stack.items → KeepsRest old new → IsEvent l steps script new None all
  lands_handler new place at h low small changes keeps =
      let n = names_in l in
      let w = world_in l old in
      let v = value_of n d in
      let on = lands_on (landing.Handler place at) place h refl low in
      let handler = handled l (reverse (below_top old.stack.items)) more place on.low w v on.top at on.flies in
      let f = handler.frame in
      let last : last_of old.stack.items ≡ Some (waiting.Method f) = on.is ∙ ap (λ (x : Waiting). Some x) handler.is in
      let top : top_frame old.stack.items ≡ Some f = ap (option_and_then frame_in) last in
      let sound = top_sound l steps old f h.running top in
      let replaced = stack_handles n script old.stack.items new.stack.items f at d top changes in
      let caught : NamedFrame = record (go (frame_of n f) at) { caught = v } in
      let rest = stack_of n script (below_top old.stack.items) in
      let is : all ≡ quiet (On w (classes_in l old) (InMethod caught ∷ rest) (script_in script old)) =
      sym h.whole ∙ ap (λ (ws : List NamedWaiting). unwinds (run_face l) (bodies_in l) w (classes_in l old) v ws (script_in script old)) replaced.was
      ∙ ap (λ (o : Option NamedFrame). lands_or w (classes_in l old) rest (script_in script old) o (unwinds (run_face l) (bodies_in l) w (classes_in l old) v rest (script_in script old)))
      (lands_named l r (length (spots_of old.world)) f w v sound ∙ ap (option_map (λ (k : ℕ). record (go (frame_of n f) k) { caught = v })) handler.lands) in
      subst (IsEvent l steps script new None) (sym is) (record {
        left = record {
          state = state_on l script new (keeps.ended ∙ h.on) ∙ (λ i. On (world_of n (keeps.world i)) (classes_of l.program.now (keeps.statuses i).items) (replaced.is i) (drop (keeps.next i) script));
          running = λ go. running_handles l steps old new f at d h.running top small h.fine changes keeps;
        };
        shown = refl;
      })

  -- what the framework is shown
  pub exhibits : (place : ℕ) (shown : Exhibit) → IsFalling l steps script all (landing.Framework place shown) old more d → length old.stack.items ≤ place + 1 → Exhibits (world_in l old) (value_of (names_in l) d) shown
  exhibits place shown h low =
      let on = lands_on (landing.Framework place shown) place h refl low in
      (reached l (reverse (below_top old.stack.items)) more place on.low (world_in l old) (value_of (names_in l) d) on.top shown on.flies).shows

  pub lands_framework : (w : OwnWorld) (new : State) (place : ℕ) (shown : Exhibit) (s : Shown) → IsFalling l steps script all (landing.Framework place shown) old more d → length old.stack.items ≤ place + 1
      → IsShown l throwable_type (value_of (names_in l) d) old.world w s → KeepsRest (record old { world = w }) new → new.stack.items ≡ pending_top None old.stack.items → IsEvent l steps script new (Some (event.Uncaught s)) all
  lands_framework w new place shown s h low x keeps entries =
      let n = names_in l in
      let v = value_of n d in
      let mid = record old { world = w } in
      let on = lands_on (landing.Framework place shown) place h refl low in
      let framework = reached l (reverse (below_top old.stack.items)) more place on.low (world_in l old) v on.top shown on.flies in
      let last : last_of old.stack.items ≡ Some (waiting.Outside framework.owes framework.pending) = on.is ∙ ap (λ (y : Waiting). Some y) framework.is in
      let stack = popped_named n script old.stack.items (waiting.Outside framework.owes framework.pending) last in
      let left : List NamedWaiting = Outside (option_map n.kind framework.owes) None ∷ stack_of n script (below_top old.stack.items) in
      let named : stack_in l script new ≡ left = ap (stack_of n script) entries ∙ pending_named n script None old.stack.items framework.owes framework.pending last in
      let shows : World × Shown → List NamedWaiting → Next = λ p ws. (On p.0 (classes_in l old) ws (script_in script old), Some (event.Uncaught p.1)) in
      let is : all ≡ shows (world_of n w, s) left =
      sym h.whole ∙ ap (λ (ws : List NamedWaiting). unwinds (run_face l) (bodies_in l) (world_in l old) (classes_in l old) v ws (script_in script old)) stack
      ∙ ap (λ (p : World × Shown). shows p left) x.shown in
      let size = x.stands.size in
      let run = running_world l steps old mid h.running x.sound (omega (arith, size)) x.stands.locks refl refl in
      subst (IsEvent l steps script new (Some (event.Uncaught s))) (sym is) (record {
        left = record {
          state = state_on l script new (keeps.ended ∙ h.on) ∙ (λ i. On (world_of n (keeps.world i)) (classes_of l.program.now (keeps.statuses i).items) (named i) (drop (keeps.next i) script));
          running = λ go. running_pending l (steps + 1) mid new None (running_more l steps mid run) keeps entries;
        };
        shown = refl;
      })

  pub lands_nowhere : (new : State) → new ≡ record old { ended = true } → IsFalling l steps script all landing.Nowhere old more d → IsEvent l steps script new None all
  lands_nowhere new e h =
      let n = names_in l in
      let ended : new.ended ≡ true = ap (λ (s : State). s.ended) e in
      let size = length (spots_of old.world) in
      let is : all ≡ quiet Ended =
      sym h.whole ∙ flies_nowhere l (world_in l old) (value_of n d) (classes_in l old) (reverse old.stack.items) more landing.Nowhere script (script_in script old) r
      (λ i x g. (size, reversed_sound l size old.stack.items (running_stack l steps old h.running) i x g)) h.flies refl in
      subst (IsEvent l steps script new None) (sym is) (record {
        left = record { state = state_over l script new ended; running = no_running l (steps + 1) new ended };
        shown = refl;
      })
