-- A value is given to what waits for it, by numbers and by names.
use Rattle.std.proofs.Common.{◌≡◌, ℕ, zero, suc, ◌+◌, ◌-◌, ◌<◌, ◌≤◌, Bool, true, false, true≢false, List, [], ◌∷◌, ◌++◌, length, map, take, arith, ap, refl, sym, subst, ◌∙◌, length-append}
use Rattle.std.specs.Prelude.{◌^◌, drop, Option, Some, None, slice_get, slice_set}
use Rattle.std.specs.Option.{option_and_then, option_map}
use Rattle.dalvik_defs.specs.Names.{Text}
use Rattle.dalvik_defs.specs.Stack.{back, gives}
use Rattle.dalvik_defs.specs.State.{Next, On, Ended, World, State as NamedState}
use Rattle.dalvik_defs.specs.declared.events.Event.TheVariants as event
use Rattle.dalvik_defs.specs.declared.events.Shown.{Shown}
use Rattle.dalvik_defs.specs.declared.script.Move.{Move}
use Rattle.dalvik_defs.specs.declared.state.Frame.{Frame as NamedFrame}
use Rattle.dalvik_defs.specs.declared.state.Value.{Value}
use Rattle.dalvik_defs.specs.declared.state.Waiting.{Waiting as NamedWaiting}
use Rattle.dalvik_defs.specs.declared.state.Waiting.TheVariants.{Method as InMethod}
use Rattle.dalvik_lookups.specs.Tables.{IsRight}
use Rattle.dalvik_lookups.specs.declared.lookups.Lookups.{Lookups}
use Rattle.dalvik_lookups.specs.declared.types.Kind.{Kind}
use Rattle.dalvik_state.specs.declared.datum.Datum.{Datum}
use Rattle.dalvik_state.specs.declared.frame.Frame.{Frame}
use Rattle.dalvik_state.specs.declared.gifts.Gifts.{Gifts}
use Rattle.dalvik_state.specs.declared.world.World.{World as OwnWorld}
use Rattle.dalvik_defs.specs.Show.{show_option}
use Rattle.dalvik_state.specs.declared.shows.Draft.{Draft}
use Rattle.dalvik_state.specs.Drafts.{give_all, gift_spots, given_things, given_world, AreDrafts, AreDrawn, AreShown}
use Rattle.dalvik_state.specs.Giving.{AreGiven, IsGiven}
use Rattle.dalvik_state.specs.declared.state.State.{State}
use Rattle.dalvik_state.specs.declared.state.Waiting.{Waiting}
use Rattle.dalvik_state.specs.declared.state.Waiting.TheVariants as waiting
use Rattle.dalvik_state.specs.Runs.{bodies_in, classes_in, script_in, stack_in, world_in, IsEvent, IsLeft}
use Rattle.dalvik_state.specs.States.{below_top, classes_of, frame_in, stack_of, state_of, top_frame, waiting_of, AreKinds, HasRoom, HasSpace, IsRunning, IsSound}
use Rattle.dalvik_state.specs.Views.{frame_of, names_in, value_of, world_of, IsFine, Names}
use Rattle.dalvik_state.specs.Worlds.{new_spot, spots_of, IsShort, Spot}
use Rattle.dalvik_state.proofs.Running.{AreHeld, ArePaced, AreSoundWaiting, paced_below, popped_named, running_held, running_more, running_of, running_paced, running_stack, running_topped, sound_below, stack_more, top_paced, top_sound}
use Rattle.dalvik_state.proofs.Tops.{topped_named}
use Rattle.dalvik_steps.specs.Turns.{IsAsItWas}
use Rattle.dalvik_steps.specs.Backs.{is_outside, last_of, Backs, HandedTo, IsHanded, TakesBack}
use Rattle.dalvik_steps.specs.Entries.{AreGivenFine, ShowsGiven}
use Rattle.dalvik_steps.proofs.Backing.{backs_named, backs_paced, backs_sound, FineMaybe}
use Rattle.dalvik_steps.proofs.Undone.{sound_same, world_same}

-- a state that goes on, by its parts
pub state_on : (l : Lookups) (script : List Move) (s : State) → s.ended ≡ false → state_of (names_in l) script s ≡ On (world_in l s) (classes_in l s) (stack_in l script s) (script_in script s)
state_on l script s e = ap (λ (b : Bool). elim b as (λ b. NamedState) [ true ↦ Ended | false ↦ On (world_in l s) (classes_in l s) (stack_in l script s) (script_in script s) ]) e

pub state_over : (l : Lookups) (script : List Move) (s : State) → s.ended ≡ true → state_of (names_in l) script s ≡ Ended
state_over l script s e = ap (λ (b : Bool). elim b as (λ b. NamedState) [ true ↦ Ended | false ↦ On (world_in l s) (classes_in l s) (stack_in l script s) (script_in script s) ]) e

-- a run that is over makes no step
pub no_running : (l : Lookups) (steps : ℕ) (s : State) → s.ended ≡ true → s.ended ≡ false → IsRunning l steps s
no_running l steps s e f = absurd (true≢false (sym e ∙ f))

-- an entry that stands last
pub nothing_last : (xs : List Waiting) → last_of xs ≡ None → xs ≡ []
nothing_last xs e = by xs e
  where
    none_at : (ys : List Waiting) (i : ℕ) → i < length ys → slice_get ys i ≡ None → ⊥
    none_at [] i h f = absurd (omega arith)
    none_at (y ∷ ys) zero h f = absurd (cc)
    none_at (y ∷ ys) (suc i) h f = none_at ys i (omega arith) f

    by : (ys : List Waiting) → last_of ys ≡ None → ys ≡ []
    by [] f = refl
    by (y ∷ ys) f = absurd (none_at (y ∷ ys) (length (y ∷ ys) - 1) (omega arith) f)

module _ (l : Lookups) (r : IsRight l) (steps : ℕ) (early : steps < 2 ^ 32) (script : List Move) (old new : State) (run : IsRunning l steps old) (on : old.ended ≡ false) (value : Option Datum) (kind : Text) where
  abbrev pub given : List NamedWaiting → Next
  given stack = gives (bodies_in l) kind (world_in l old) (classes_in l old) (option_map (value_of (names_in l)) value) stack (script_in script old)

  over : new ≡ record old { ended = true } → (to : Next) → to ≡ (Ended, None) → IsEvent l steps script new None to
  over h to e =
      let ended : new.ended ≡ true = ap (λ (s : State). s.ended) h in
      subst (IsEvent l steps script new None) (sym e) (record {
        left = record { state = state_over l script new ended; running = no_running l (steps + 1) new ended };
        shown = refl;
      })

  -- the frame below goes on
  pub goes_back : FineMaybe (names_in l) (length (spots_of old.world)) value → (f : Frame) → last_of old.stack.items ≡ Some (waiting.Method f) → TakesBack value old new → IsEvent l steps script new None (given (stack_in l script old))
  goes_back fine f e h =
      let top : top_frame old.stack.items ≡ Some f = ap (option_and_then frame_in) e in
      let t = h.stack.top f top in
      let s = top_sound l steps old f run top in
      let paced = top_paced l steps old f run top in
      let low : f.position < 2 ^ 63 = omega (arith, paced, early) in
      let next = backs_paced f t.frame value low t.so in
      let named = backs_named l r (length (spots_of old.world)) f t.frame value s low t.so in
      let is_on : new.ended ≡ false = h.rest.ended ∙ on in
      subst (IsEvent l steps script new None) (sym (ap given (popped_named (names_in l) script old.stack.items (waiting.Method f) e))) (record {
        left = record {
          state = state_on l script new is_on ∙ (λ i. On (world_of (names_in l) (h.rest.world i)) (classes_of l.program.now (h.rest.statuses i).items)
              ((topped_named (names_in l) script (Backs value f) old.stack.items new.stack.items f top t ∙ ap (λ (g : NamedFrame). InMethod g ∷ stack_of (names_in l) script (below_top old.stack.items)) named) i) (drop (h.rest.next i) script));
          running = λ go. running_topped l steps old new t.frame run h.rest t.stack (backs_sound l (length (spots_of old.world)) f t.frame value s fine t.so) (omega (arith, next, paced));
        };
        shown = refl;
      })

  -- what is given to anything but the framework
  pub handed : FineMaybe (names_in l) (length (spots_of old.world)) value → IsHanded value old new → is_outside (last_of old.stack.items) ≡ false → IsEvent l steps script new None (given (stack_in l script old))
  handed fine h outside = by (last_of old.stack.items) refl h.handed
    where
      by : (o : Option Waiting) → last_of old.stack.items ≡ o → HandedTo o value old new → IsEvent l steps script new None (given (stack_in l script old))
      by None e g = over g (given (stack_in l script old)) (ap (λ (xs : List Waiting). given (stack_of (names_in l) script xs)) (nothing_last old.stack.items e))
      by (Some (waiting.Method f)) e g = goes_back fine f e g
      by (Some (waiting.Initialiser class above next)) e g = over g (given (stack_in l script old)) (ap given (popped_named (names_in l) script old.stack.items (waiting.Initialiser class above next) e))
      by (Some (waiting.Ending class)) e g =
          let stack = popped_named (names_in l) script old.stack.items (waiting.Ending class) e in
          let is_on : new.ended ≡ false = ap (λ (s : State). s.ended) g ∙ on in
          subst (IsEvent l steps script new None) (sym (ap given stack)) (record {
            left = record {
              state = ap (state_of (names_in l) script) g ∙ state_on l script old on ∙ ap (λ (xs : List NamedWaiting). On (world_in l old) (classes_in l old) xs (script_in script old)) stack;
              running = λ go. subst (IsRunning l (steps + 1)) (sym g) (running_more l steps old run);
            };
            shown = refl;
          })
      by (Some (waiting.Outside owes pending)) e g = absurd (true≢false (sym (ap is_outside e) ∙ outside))

-- ---- the top is gone, and the world has changed

-- a run whose stack is cut off, with at least as many objects and the same locks
pub running_cut : (l : Lookups) (steps k : ℕ) (old new : State) → IsRunning l steps old → IsSound l new.world → length (spots_of old.world) ≤ length (spots_of new.world) → new.world.locks ≡ old.world.locks → new.statuses ≡ old.statuses → new.stack.items ≡ take k old.stack.items
    → IsRunning l steps new
running_cut l steps k old new run sound more locks statuses stack = running_of l steps new sound (ap (λ v. length v.items) statuses ∙ run.classes)
    (subst (AreSoundWaiting l (length (spots_of new.world))) (sym stack) (sound_below l (length (spots_of new.world)) k old.stack.items (stack_more l (length (spots_of old.world)) (length (spots_of new.world)) old.stack.items more (running_stack l steps old run))))
    (subst (ArePaced (2 ^ 32 + steps)) (sym stack) (paced_below (2 ^ 32 + steps) k old.stack.items (running_paced l steps old run)))
    (subst (λ m. AreHeld steps m.entries) (sym locks) (running_held l steps old run))

fine_given : (l : Lookups) (w : OwnWorld) (g : Gifts) (size : ℕ) (value : Option Datum) → size ≡ length (gift_spots w g) → AreGivenFine l w g value → FineMaybe (names_in l) size value
fine_given l w g size None e h = tt
fine_given l w g size (Some d) e h = subst (λ (k : ℕ). IsFine (names_in l) k d) (sym e) h

gifts_more : (w : OwnWorld) (g : Gifts) → length (spots_of w) ≤ length (gift_spots w g)
gifts_more w g = let long = length-append (spots_of w) (map new_spot g.things.items) in omega (arith, long)

-- a value with the objects of a move is given to what stands below in the program
pub given_within : (l : Lookups) → IsRight l → (steps : ℕ) → steps < 2 ^ 32 → (script : List Move) (old mid new : State) (g : Gifts) (value : Option Datum) (kind : Text) → IsRunning l steps old → old.ended ≡ false → is_outside (last_of (below_top old.stack.items)) ≡ false
    → AreGivenFine l old.world g value → AreGiven l g old.world mid.world → mid.statuses ≡ old.statuses → mid.stack.items ≡ below_top old.stack.items → mid.next ≡ old.next → mid.ended ≡ old.ended → IsHanded value mid new
    → IsEvent l steps script new None (gives (bodies_in l) kind (given_world (names_in l) old.world g) (classes_in l old) (option_map (value_of (names_in l)) value) (stack_of (names_in l) script (below_top old.stack.items)) (script_in script old))
given_within l r steps early script old mid new g value kind run on outside fine a statuses stack next ended h =
    let n = names_in l in
    let size = a.spots in
    let more = gifts_more old.world g in
    let run_mid = running_cut l steps (length old.stack.items - 1) old mid run a.sound (omega (arith, size, more)) a.locks statuses stack in
    let outer : is_outside (last_of mid.stack.items) ≡ false = ap (λ (xs : List Waiting). is_outside (last_of xs)) stack ∙ outside in
    let all = handed l r steps early script mid new run_mid (ended ∙ on) value kind (fine_given l old.world g (length (spots_of mid.world)) value size fine) h outer in
    subst (IsEvent l steps script new None)
    (λ i. gives (bodies_in l) kind (a.world i) (classes_of l.program.now (statuses i).items) (option_map (value_of n) value) (stack_of n script (stack i)) (drop (next i) script)) all

outside_there : (o : Option Waiting) → is_outside o ≡ true → (owes : Option Kind) × ((pending : Option ℕ) × (o ≡ Some (waiting.Outside owes pending)))
outside_there (Some (waiting.Outside owes pending)) e = (owes, (pending, refl))
outside_there None e = absurd (true≢false (sym e))
outside_there (Some (waiting.Method f)) e = absurd (true≢false (sym e))
outside_there (Some (waiting.Initialiser class above next)) e = absurd (true≢false (sym e))
outside_there (Some (waiting.Ending class)) e = absurd (true≢false (sym e))

-- or it is shown to the framework
pub given_out : (l : Lookups) (steps : ℕ) (script : List Move) (old new : State) (g : Gifts) (value : Option Datum) (kind : Text) (s : Option Shown) → IsRunning l steps old → old.ended ≡ false → is_outside (last_of (below_top old.stack.items)) ≡ true
    → ShowsGiven l g kind value old.world new.world s → new.statuses ≡ old.statuses → new.stack.items ≡ below_top old.stack.items → new.next ≡ old.next → new.ended ≡ old.ended
    → IsEvent l steps script new (Some (event.Result s)) (gives (bodies_in l) kind (given_world (names_in l) old.world g) (classes_in l old) (option_map (value_of (names_in l)) value) (stack_of (names_in l) script (below_top old.stack.items)) (script_in script old))
given_out l steps script old new g value kind s run on outside a statuses stack next ended =
    let n = names_in l in
    let below = below_top old.stack.items in
    let framework = outside_there (last_of below) outside in
    let names = popped_named n script below (waiting.Outside framework.0 framework.1.0) framework.1.1 in
    let size = a.spots in
    let more = gifts_more old.world g in
    let run_new = running_cut l steps (length old.stack.items - 1) old new run a.sound (omega (arith, size, more)) a.locks statuses stack in
    let shows : World × Option Shown → List NamedWaiting → Next = λ p ws. (On p.0 (classes_in l old) ws (script_in script old), Some (event.Result p.1)) in
    let is : gives (bodies_in l) kind (given_world n old.world g) (classes_in l old) (option_map (value_of n) value) (stack_of n script below) (script_in script old) ≡ shows (world_of n new.world, s) (stack_of n script below) =
    ap (λ (ws : List NamedWaiting). gives (bodies_in l) kind (given_world n old.world g) (classes_in l old) (option_map (value_of n) value) ws (script_in script old)) names
    ∙ ap (λ (p : World × Option Shown). shows p (waiting_of n script (waiting.Outside framework.0 framework.1.0) ∷ stack_of n script (below_top below))) a.shown
    ∙ ap (shows (world_of n new.world, s)) (sym names) in
    subst (IsEvent l steps script new (Some (event.Result s))) (sym is) (record {
      left = record {
        state = state_on l script new (ended ∙ on) ∙ (λ i. On (world_of n new.world) (classes_of l.program.now (statuses i).items) (stack_of n script (stack i)) (drop (next i) script));
        running = λ go. running_more l steps new run_new;
      };
      shown = refl;
    })

-- ---- the objects of a move are put on the heap

pub given_same : (l : Lookups) (g : Gifts) (old new : OwnWorld) → IsAsItWas old new → IsGiven l old g → IsGiven l new g
given_same l g old new h i =
    let spots : gift_spots new g ≡ gift_spots old g = ap (λ (ss : List Spot). ss ++ map new_spot g.things.items) h.heap in
    record {
      sound = sound_same l old new h i.sound;
      kinds = subst (AreKinds l) (sym spots) i.kinds;
      short = subst IsShort (sym spots) i.short;
      fine = i.fine;
    }

pub given_after : (l : Lookups) (g : Gifts) (old mid new : OwnWorld) → IsAsItWas old mid → AreGiven l g mid new → AreGiven l g old new
given_after l g old mid new h a = record {
  world = a.world ∙ ap (λ (w : World). give_all w (given_things (names_in l) g.things.items)) (world_same (names_in l) old mid h);
  spots = a.spots ∙ ap (λ (ss : List Spot). length (ss ++ map new_spot g.things.items)) h.heap;
  sound = a.sound;
  locks = a.locks ∙ h.locks;
}

pub drawn_of : (l : Lookups) → IsRight l → (w : OwnWorld) (g : Gifts) (value : Option Datum) → IsGiven l w g → AreGivenFine l w g value → AreDrawn l w g value
drawn_of l r w g None i fine = record { drawn = tt }
drawn_of l r w g (Some d) i fine = record { drawn = record { types = r.tabled.named.types; sound = i.sound; kinds = i.kinds; fine = fine } }

pub drafts_after : (n : Names) (g : Gifts) (old : OwnWorld) (w : World) (kind : Text) (v : Option Value) (d : Option Draft) → w ≡ given_world n old g → AreDrafts (given_world n old g) kind v d → AreDrafts w kind v d
drafts_after n g old w kind v d e h = subst (λ (u : World). AreDrafts u kind v d) (sym e) h

pub shows_after : (l : Lookups) (g : Gifts) (kind : Text) (value : Option Datum) (old mid new : OwnWorld) (s : Option Shown) → AreGiven l g old mid → AreShown l kind (option_map (value_of (names_in l)) value) mid new s → ShowsGiven l g kind value old new s
shows_after l g kind value old mid new s a x = record {
  shown = ap (λ (w : World). show_option w kind (option_map (value_of (names_in l)) value)) (sym a.world) ∙ x.shown;
  sound = x.sound;
  spots = x.stands.size ∙ a.spots;
  locks = x.stands.locks ∙ a.locks;
}

pub room_given : (w : OwnWorld) (count : ℕ) → HasRoom w (count + 1) → HasRoom w count
room_given w count h = let r = h.room in record { room = omega (arith, r) }

pub space_given : (w : OwnWorld) (count : ℕ) → HasSpace w (count + 1) → HasSpace w count
space_given w count h = let r = h.space in record { space = omega (arith, r) }

pub room_exact : (w : OwnWorld) (count : ℕ) → HasRoom w (count + 0) → HasRoom w count
room_exact w count h = let r = h.room in record { room = omega (arith, r) }

pub space_exact : (w : OwnWorld) (count : ℕ) → HasSpace w (count + 0) → HasSpace w count
space_exact w count h = let r = h.space in record { space = omega (arith, r) }
