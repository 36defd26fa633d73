-- What a thrown object does to the stack on its way, by numbers and by names.
use Rattle.std.proofs.Common.{◌≡◌, ℕ, zero, suc, ◌+◌, ◌-◌, ◌<◌, ◌≤◌, ◌⊎◌, inl, inr, Bool, true, false, true≢false, List, [], ◌∷◌, ◌++◌, length, map, take, drop, arith, ap, refl, sym, subst, ◌∙◌, length-append, eqb-true, eq-eqb}
use Rattle.std.specs.Prelude.{◌^◌, Option, Some, None, reverse, slice_get, slice_set}
use Rattle.std.specs.Option.{option_and_then, option_map}
use Rattle.std.proofs.lemmas.List.{length-reverse, reverse-append}
use Rattle.class_defs.proofs.Positions.{entry_at}
use Rattle.dalvik_defs.specs.Effect.{go}
use Rattle.dalvik_defs.specs.Known.{initialiser_error}
use Rattle.dalvik_defs.specs.Names.{Text, error_type}
use Rattle.dalvik_defs.specs.Stack.{handler_at, lands, lands_or, unwinds}
use Rattle.dalvik_defs.specs.State.{Classes, World, Failed, Next, Ended, fresh, kind_of, next_object, put_status, quiet, with_thing}
use Rattle.dalvik_defs.specs.declared.program.NamedBody.{NamedBody}
use Rattle.dalvik_defs.specs.declared.script.Move.{Move}
use Rattle.dalvik_defs.specs.declared.state.Frame.{Frame as NamedFrame}
use Rattle.dalvik_defs.specs.declared.state.Value.{Value}
use Rattle.dalvik_defs.specs.declared.state.Waiting.{Waiting as NamedWaiting}
use Rattle.dalvik_lookups.specs.Facing.{run_face}
use Rattle.dalvik_lookups.specs.Tables.{IsRight}
use Rattle.dalvik_lookups.specs.Views.{name_at}
use Rattle.dalvik_lookups.specs.declared.lookups.Lookups.{Lookups}
use Rattle.dalvik_lookups.specs.declared.types.Kind.{Kind}
use Rattle.dalvik_lookups.proofs.Descriptors.{known_at}
use Rattle.dalvik_lookups.proofs.Interned.{got_last}
use Rattle.dalvik_state.specs.declared.datum.Datum.{Datum}
use Rattle.dalvik_state.specs.declared.datum.Datum.TheVariants as datum
use Rattle.dalvik_state.specs.declared.frame.Frame.{Frame}
use Rattle.dalvik_state.specs.declared.state.State.{State}
use Rattle.dalvik_state.specs.declared.state.Status.{Status as OwnStatus}
use Rattle.dalvik_state.specs.declared.state.Status.TheVariants as status
use Rattle.dalvik_state.specs.declared.state.Waiting.{Waiting}
use Rattle.dalvik_state.specs.declared.state.Waiting.TheVariants as waiting
use Rattle.dalvik_state.specs.declared.world.Thing.TheVariants as thing
use Rattle.dalvik_state.specs.declared.world.World.{World as OwnWorld}
use Rattle.dalvik_state.specs.Effects.{plain}
use Rattle.dalvik_state.specs.Runs.{bodies_in, classes_in, script_in, stack_in, world_in}
use Rattle.dalvik_state.specs.States.{below_top, class_text, classes_of, stack_of, waiting_of, HasRoom, HasSpace, IsRunning, IsSound, IsSoundFrame, IsSoundWaiting}
use Rattle.dalvik_state.specs.Views.{Names, frame_of, names_in, value_of, world_of, IsFine}
use Rattle.dalvik_state.specs.Worlds.{new_spot, spots_of, IsHeap}
use Rattle.dalvik_state.proofs.Bodies.{frame_body}
use Rattle.dalvik_state.proofs.Opening.{status_named}
use Rattle.dalvik_state.proofs.Running.{AreHeld, ArePaced, AreSoundWaiting, paced_below, popped_named, running_held, running_of, running_paced, running_stack, running_world, sound_below}
use Rattle.dalvik_state.proofs.Things.{next_is}
use Rattle.dalvik_state.proofs.Tops.{set_own, split_last}
use Rattle.dalvik_steps.specs.declared.throwing.Exhibit.{Exhibit}
use Rattle.dalvik_steps.specs.declared.throwing.Landing.{Landing}
use Rattle.dalvik_steps.specs.declared.throwing.Landing.TheVariants as landing
use Rattle.dalvik_steps.specs.Backs.{last_of}
use Rattle.dalvik_steps.specs.Falls.{failing, noted, DropsTop, IsFailed, IsFalling, IsPopped, LandsThere}
use Rattle.dalvik_steps.specs.Flights.{lands_at, Exhibits, Flies, IfUnder, LandsOr, Reaches}
use Rattle.dalvik_steps.proofs.Flying.{plain_kind}
use Rattle.dalvik_steps.proofs.Handing.{nothing_last}
use Rattle.dalvik_steps.proofs.Made.{instance_named, instance_sound}
use Rattle.dalvik_steps.proofs.Turning.{own_class}

-- ---- the way

there : (a b : Landing) (place : ℕ) → a ≡ b → LandsThere a place → LandsThere b place
there a b place e t = subst (λ (x : Landing). LandsThere x place) e t

module _ (l : Lookups) where
  -- it lands at a place below the top
  pub flies_low : (w : World) (v : Value) (ws : List Waiting) (wraps : List ℕ) (to : Landing) (place : ℕ) → Flies l w v ws wraps to → LandsThere to place → place < length ws
  flies_low w v [] wraps to place h t = absurd (there to landing.Nowhere place h.1 t)
  flies_low w v (waiting.Method f ∷ rest) wraps to place h t = by (flies_low w v rest wraps to place) (lands_at l w v f) h
    where
      by : (Flies l w v rest wraps to → LandsThere to place → place < length rest) → (o : Option ℕ) → LandsOr (length rest) wraps to o (Flies l w v rest wraps to) → place < suc (length rest)
      by more (Some at) g = let same : length rest ≡ place = there to (landing.Handler (length rest) at) place g.1 t in omega (arith, same)
      by more None g = let low = more g t in omega (arith, low)
  flies_low w v (waiting.Initialiser class above next ∷ rest) wraps to place h t = let low = flies_low w v rest wraps to place h t in omega (arith, low)
  flies_low w v (waiting.Ending class ∷ rest) wraps to place h t =
      by (flies_low w v rest wraps to place) (λ (more : List ℕ). flies_low (with_thing w (fresh initialiser_error)) (next_object w) rest more to place) ((run_face l).under (kind_of w v) error_type) h
    where
      by : (Flies l w v rest wraps to → LandsThere to place → place < length rest) → ((more : List ℕ) → Flies l (with_thing w (fresh initialiser_error)) (next_object w) rest more to → LandsThere to place → place < length rest)
          → (b : Bool) → IfUnder b (Flies l w v rest wraps to) ((more : List ℕ) × ((wraps ≡ length rest ∷ more) × Flies l (with_thing w (fresh initialiser_error)) (next_object w) rest more to)) → place < suc (length rest)
      by same new true g = let low = same g t in omega (arith, low)
      by same new false g = let low = new g.0 g.1.1 t in omega (arith, low)
  flies_low w v (waiting.Outside owes pending ∷ rest) wraps to place h t = let same : length rest ≡ place = there to (landing.Framework (length rest) h.1.0) place h.1.1.0 t in omega (arith, same)

  -- it is replaced below the top
  pub wraps_low : (w : World) (v : Value) (ws : List Waiting) (wraps : List ℕ) (to : Landing) (k : ℕ) (more : List ℕ) → Flies l w v ws wraps to → wraps ≡ k ∷ more → k < length ws
  wraps_low w v [] wraps to k more h e = absurd (let no : [] ≡ k ∷ more = sym h.0 ∙ e in cc)
  wraps_low w v (waiting.Method f ∷ rest) wraps to k more h e = by (wraps_low w v rest wraps to k more) (lands_at l w v f) h
    where
      by : (Flies l w v rest wraps to → wraps ≡ k ∷ more → k < length rest) → (o : Option ℕ) → LandsOr (length rest) wraps to o (Flies l w v rest wraps to) → k < suc (length rest)
      by on (Some at) g = absurd (let no : [] ≡ k ∷ more = sym g.0 ∙ e in cc)
      by on None g = let low = on g e in omega (arith, low)
  wraps_low w v (waiting.Initialiser class above next ∷ rest) wraps to k more h e = let low = wraps_low w v rest wraps to k more h e in omega (arith, low)
  wraps_low w v (waiting.Ending class ∷ rest) wraps to k more h e = by (wraps_low w v rest wraps to k more) ((run_face l).under (kind_of w v) error_type) h
    where
      by : (Flies l w v rest wraps to → wraps ≡ k ∷ more → k < length rest)
          → (b : Bool) → IfUnder b (Flies l w v rest wraps to) ((others : List ℕ) × ((wraps ≡ length rest ∷ others) × Flies l (with_thing w (fresh initialiser_error)) (next_object w) rest others to)) → k < suc (length rest)
      by on true g = let low = on g e in omega (arith, low)
      by on false g = let both : length rest ∷ g.0 ≡ k ∷ more = sym g.1.0 ∙ e in let same : length rest ≡ k = cc in omega (arith, same)
  wraps_low w v (waiting.Outside owes pending ∷ rest) wraps to k more h e = absurd (let no : [] ≡ k ∷ more = sym h.0 ∙ e in cc)

  -- what lands nowhere ends the run
  pub flies_nowhere : (w : World) (v : Value) (classes : Classes) (ws : List Waiting) (wraps : List ℕ) (to : Landing) (moves script : List Move) → IsRight l → ((i : ℕ) (x : Waiting) → slice_get ws i ≡ Some x → (size : ℕ) × IsSoundWaiting l size x) → Flies l w v ws wraps to → to ≡ landing.Nowhere
      → unwinds (run_face l) (bodies_in l) w classes v (map (waiting_of (names_in l) moves) ws) script ≡ quiet Ended
  flies_nowhere w v classes [] wraps to moves script r s h e = refl
  flies_nowhere w v classes (waiting.Method f ∷ rest) wraps to moves script r s h e = by (flies_nowhere w v classes rest wraps to moves script r (λ i x g. s (suc i) x g)) (lands_at l w v f) refl h
    where
      by : (Flies l w v rest wraps to → to ≡ landing.Nowhere → unwinds (run_face l) (bodies_in l) w classes v (map (waiting_of (names_in l) moves) rest) script ≡ quiet Ended)
          → (o : Option ℕ) → lands_at l w v f ≡ o → LandsOr (length rest) wraps to o (Flies l w v rest wraps to) → unwinds (run_face l) (bodies_in l) w classes v (map (waiting_of (names_in l) moves) (waiting.Method f ∷ rest)) script ≡ quiet Ended
      by more (Some at) g k = absurd (let no : landing.Handler (length rest) at ≡ landing.Nowhere = sym k.1 ∙ e in cc)
      by more None g k =
          let sound = s 0 (waiting.Method f) refl in
          ap (λ (o : Option NamedFrame). lands_or w classes (map (waiting_of (names_in l) moves) rest) script o (unwinds (run_face l) (bodies_in l) w classes v (map (waiting_of (names_in l) moves) rest) script))
          (ap (λ (b : Option NamedBody). option_map (λ (at : ℕ). record (go (frame_of (names_in l) f) at) { caught = v }) (option_and_then (handler_at ((run_face l).under (kind_of w v)) f.position) b)) (frame_body l r sound.0 f sound.1)
          ∙ ap (option_map (λ (at : ℕ). record (go (frame_of (names_in l) f) at) { caught = v })) g)
          ∙ more k e
  flies_nowhere w v classes (waiting.Initialiser class above next ∷ rest) wraps to moves script r s h e =
      flies_nowhere w v (put_status (class_text l.program.now class) Failed classes) rest wraps to moves script r (λ i x g. s (suc i) x g) h e
  flies_nowhere w v classes (waiting.Ending class ∷ rest) wraps to moves script r s h e =
      by (flies_nowhere w v (put_status (class_text l.program.now class) Failed classes) rest wraps to moves script r (λ i x g. s (suc i) x g))
      (λ (more : List ℕ). flies_nowhere (with_thing w (fresh initialiser_error)) (next_object w) (put_status (class_text l.program.now class) Failed classes) rest more to moves script r (λ i x g. s (suc i) x g))
      ((run_face l).under (kind_of w v) error_type) h
    where
      goes_on : World × Value → Next
      goes_on p = unwinds (run_face l) (bodies_in l) p.0 (put_status (class_text l.program.now class) Failed classes) p.1 (map (waiting_of (names_in l) moves) rest) script

      wrapped_by : Bool → World × Value
      wrapped_by b = elim b as (λ b. World × Value) [ true ↦ (w, v) | false ↦ (with_thing w (fresh initialiser_error), next_object w) ]

      by : (Flies l w v rest wraps to → to ≡ landing.Nowhere → goes_on (w, v) ≡ quiet Ended) → ((more : List ℕ) → Flies l (with_thing w (fresh initialiser_error)) (next_object w) rest more to → to ≡ landing.Nowhere → goes_on (with_thing w (fresh initialiser_error), next_object w) ≡ quiet Ended)
          → (b : Bool) → IfUnder b (Flies l w v rest wraps to) ((more : List ℕ) × ((wraps ≡ length rest ∷ more) × Flies l (with_thing w (fresh initialiser_error)) (next_object w) rest more to)) → goes_on (wrapped_by b) ≡ quiet Ended
      by same new true g = same g e
      by same new false g = new g.0 g.1.1 e
  flies_nowhere w v classes (waiting.Outside owes pending ∷ rest) wraps to moves script r s h e = absurd (let no : landing.Framework (length rest) h.1.0 ≡ landing.Nowhere = sym h.1.1.0 ∙ e in cc)

-- ---- one entry is passed

abbrev pub classes_after : Lookups → Option ℕ → Classes → Classes
classes_after l None classes = classes
classes_after l (Some c) classes = put_status (class_text l.program.now c) Failed classes

-- it passes and stays the same
pub record PassesOn (l : Lookups) (w : World) (v : Value) (x : Waiting) (rest : List Waiting) (wraps : List ℕ) (to : Landing) : Type 0 where
  pub apart : (more : List ℕ) → wraps ≡ length rest ∷ more → ⊥
  pub flies : Flies l w v rest wraps to
  pub same : (classes : Classes) (stack : List NamedWaiting) (moves script : List Move) → unwinds (run_face l) (bodies_in l) w classes v (waiting_of (names_in l) moves x ∷ stack) script ≡ unwinds (run_face l) (bodies_in l) w (classes_after l (failing x) classes) v stack script

-- it is replaced by a new object
pub record IsReplacedAt (l : Lookups) (w : World) (v : Value) (x : Waiting) (rest : List Waiting) (wraps : List ℕ) (to : Landing) : Type 0 where
  pub more : List ℕ
  pub is : wraps ≡ length rest ∷ more
  pub flies : Flies l (with_thing w (fresh initialiser_error)) (next_object w) rest more to
  pub same : (classes : Classes) (stack : List NamedWaiting) (moves script : List Move) → unwinds (run_face l) (bodies_in l) w classes v (waiting_of (names_in l) moves x ∷ stack) script
      ≡ unwinds (run_face l) (bodies_in l) (with_thing w (fresh initialiser_error)) (classes_after l (failing x) classes) (next_object w) stack script

module _ (l : Lookups) (r : IsRight l) where
  -- the handler of a frame, by names
  pub lands_named : (size : ℕ) (f : Frame) (w : World) (v : Value) → IsSoundFrame l size f → lands (run_face l) (bodies_in l) w (frame_of (names_in l) f) v ≡ option_map (λ (at : ℕ). record (go (frame_of (names_in l) f) at) { caught = v }) (lands_at l w v f)
  lands_named size f w v s = ap (λ (b : Option NamedBody). option_map (λ (at : ℕ). record (go (frame_of (names_in l) f) at) { caught = v }) (option_and_then (handler_at ((run_face l).under (kind_of w v)) f.position) b)) (frame_body l r size f s)

  pub falls : (size : ℕ) (w : World) (v : Value) (x : Waiting) (rest : List Waiting) (wraps : List ℕ) (to : Landing) (place : ℕ) → IsSoundWaiting l size x → Flies l w v (x ∷ rest) wraps to → LandsThere to place → place < length rest
      → PassesOn l w v x rest wraps to ⊎ IsReplacedAt l w v x rest wraps to
  falls size w v (waiting.Method f) rest wraps to place s h t low = by (lands_at l w v f) refl h
    where
      by : (o : Option ℕ) → lands_at l w v f ≡ o → LandsOr (length rest) wraps to o (Flies l w v rest wraps to) → PassesOn l w v (waiting.Method f) rest wraps to ⊎ IsReplacedAt l w v (waiting.Method f) rest wraps to
      by (Some at) e g = absurd (let same : length rest ≡ place = there to (landing.Handler (length rest) at) place g.1 t in omega (arith, same, low))
      by None e g = inl (record {
        apart = λ more is. absurd (let below = wraps_low l w v rest wraps to (length rest) more g is in omega (arith, below));
        flies = g;
        same = λ classes stack moves script. ap (λ (o : Option NamedFrame). lands_or w classes stack script o (unwinds (run_face l) (bodies_in l) w classes v stack script))
            (lands_named size f w v s ∙ ap (option_map (λ (at : ℕ). record (go (frame_of (names_in l) f) at) { caught = v })) e);
      })
  falls size w v (waiting.Initialiser class above next) rest wraps to place s h t low = inl (record {
    apart = λ more is. absurd (let below = wraps_low l w v rest wraps to (length rest) more h is in omega (arith, below));
    flies = h;
    same = λ classes stack moves script. refl;
  })
  falls size w v (waiting.Ending class) rest wraps to place s h t low = by ((run_face l).under (kind_of w v) error_type) refl h
    where
      wrapped_by : Bool → World × Value
      wrapped_by b = elim b as (λ b. World × Value) [ true ↦ (w, v) | false ↦ (with_thing w (fresh initialiser_error), next_object w) ]

      goes_on : Classes → List NamedWaiting → List Move → World × Value → Next
      goes_on classes stack script p = unwinds (run_face l) (bodies_in l) p.0 (put_status (class_text l.program.now class) Failed classes) p.1 stack script

      by : (b : Bool) → (run_face l).under (kind_of w v) error_type ≡ b → IfUnder b (Flies l w v rest wraps to) ((more : List ℕ) × ((wraps ≡ length rest ∷ more) × Flies l (with_thing w (fresh initialiser_error)) (next_object w) rest more to))
          → PassesOn l w v (waiting.Ending class) rest wraps to ⊎ IsReplacedAt l w v (waiting.Ending class) rest wraps to
      by true e g = inl (record {
        apart = λ more is. absurd (let below = wraps_low l w v rest wraps to (length rest) more g is in omega (arith, below));
        flies = g;
        same = λ classes stack moves script. ap (λ (b : Bool). goes_on classes stack script (wrapped_by b)) e;
      })
      by false e g = inr (record {
        more = g.0;
        is = g.1.0;
        flies = g.1.1;
        same = λ classes stack moves script. ap (λ (b : Bool). goes_on classes stack script (wrapped_by b)) e;
      })
  falls size w v (waiting.Outside owes pending) rest wraps to place s h t low = absurd (let same : length rest ≡ place = there to (landing.Framework (length rest) h.1.0) place h.1.1.0 t in omega (arith, same, low))

-- ---- the top is gone

pub record IsDropped (l : Lookups) (x : Waiting) (old new : State) : Type 0 where
  pub world : new.world ≡ old.world
  pub classes : classes_in l new ≡ classes_after l (failing x) (classes_in l old)
  pub count : length new.statuses.items ≡ length old.statuses.items
  pub stack : new.stack.items ≡ below_top old.stack.items
  pub next : new.next ≡ old.next
  pub ended : new.ended ≡ old.ended

set_long : (xs : List OwnStatus) (i : ℕ) (s : OwnStatus) → length (slice_set xs i s) ≡ length xs
set_long [] i s = refl
set_long (x ∷ xs) zero s = refl
set_long (x ∷ xs) (suc i) s = ap suc (set_long xs i s)

module _ (l : Lookups) (r : IsRight l) (steps : ℕ) (old new : State) (run : IsRunning l steps old) where
  failed : (x : Waiting) (class : ℕ) → class < length l.program.now.classes → failing x ≡ Some class → IsFailed class old new → IsDropped l x old new
  failed x class low e h = record {
    world = h.world;
    classes = ap (classes_of l.program.now) h.statuses
        ∙ status_named l.program.now old.statuses.items class status.Failed (own_class l r class low) (let all = run.classes in omega (arith, all, low))
        ∙ sym (ap (λ (o : Option ℕ). classes_after l o (classes_in l old)) e);
    count = ap length h.statuses ∙ set_long old.statuses.items class status.Failed;
    stack = h.stack;
    next = h.next;
    ended = h.ended;
  }

  popped : (x : Waiting) → failing x ≡ None → IsPopped old new → IsDropped l x old new
  popped x e h = record {
    world = h.world;
    classes = ap (λ v. classes_of l.program.now v.items) h.statuses ∙ sym (ap (λ (o : Option ℕ). classes_after l o (classes_in l old)) e);
    count = ap (λ v. length v.items) h.statuses;
    stack = h.stack;
    next = h.next;
    ended = h.ended;
  }

  dropped_of : (x : Waiting) → IsSoundWaiting l (length (spots_of old.world)) x → DropsTop (Some x) old new → IsDropped l x old new
  dropped_of (waiting.Method f) s h = popped (waiting.Method f) refl h
  dropped_of (waiting.Initialiser class above next) s h = failed (waiting.Initialiser class above next) class (s.at 0 class refl) refl h
  dropped_of (waiting.Ending class) s h = failed (waiting.Ending class) class (s.at 0 class refl) refl h
  dropped_of (waiting.Outside owes pending) s h = popped (waiting.Outside owes pending) refl h

  pub dropped : (x : Waiting) → last_of old.stack.items ≡ Some x → DropsTop (last_of old.stack.items) old new → IsDropped l x old new
  dropped x e h = dropped_of x (run.stack (length old.stack.items - 1) x e) (subst (λ (o : Option Waiting). DropsTop o old new) e h)

-- ---- the fall

-- the top of a stack, top first
pub top_first : (xs : List Waiting) (x : Waiting) → last_of xs ≡ Some x → reverse xs ≡ x ∷ reverse (below_top xs)
top_first xs x e = ap reverse (sym (set_own xs (length xs - 1) x e) ∙ split_last xs x e x) ∙ reverse-append (below_top xs) (x ∷ [])

pub below_long : (xs : List Waiting) (k : ℕ) → k ≤ length xs → length (take k xs) ≡ k
below_long xs zero h = refl
below_long [] (suc k) h = absurd (omega arith)
below_long (x ∷ xs) (suc k) h = ap suc (below_long xs k (omega arith))

pub below_count : (xs : List Waiting) → length (reverse (below_top xs)) ≡ length xs - 1
below_count xs = length-reverse (below_top xs) ∙ below_long xs (length xs - 1) (omega arith)

module _ (l : Lookups) (r : IsRight l) (steps : ℕ) (script : List Move) (all : Next) (to : Landing) (place : ℕ) (t : LandsThere to place) where
  -- a run whose top is gone
  pub running_dropped : (x : Waiting) (old new : State) → IsRunning l steps old → IsDropped l x old new → IsRunning l steps new
  running_dropped x old new run d = running_of l steps new (subst (IsSound l) (sym d.world) run.world) (d.count ∙ run.classes)
      (subst (λ (w : OwnWorld). AreSoundWaiting l (length (spots_of w)) new.stack.items) (sym d.world) (subst (AreSoundWaiting l (length (spots_of old.world))) (sym d.stack) (sound_below l (length (spots_of old.world)) (length old.stack.items - 1) old.stack.items (running_stack l steps old run))))
      (subst (ArePaced (2 ^ 32 + steps)) (sym d.stack) (paced_below (2 ^ 32 + steps) (length old.stack.items - 1) old.stack.items (running_paced l steps old run)))
      (subst (λ (w : OwnWorld). AreHeld steps w.locks.entries) (sym d.world) (running_held l steps old run))

  -- it passes the top
  pub fall_on : (x : Waiting) (old new : State) (more : List ℕ) (d : Datum) → IsFalling l steps script all to old more d → place + 1 < length old.stack.items → last_of old.stack.items ≡ Some x → IsDropped l x old new
      → ((others : List ℕ) → more ≡ (length old.stack.items - 1) ∷ others → ⊥) → IsFalling l steps script all to new more d
  fall_on x old new more d h low e dr apart =
      let rest = reverse (below_top old.stack.items) in
      let count = below_count old.stack.items in
      let below : place < length rest = omega (arith, low, count) in
      let v = value_of (names_in l) d in
      let flies : Flies l (world_in l old) v (x ∷ rest) more to = subst (λ (ws : List Waiting). Flies l (world_in l old) v ws more to) (top_first old.stack.items x e) h.flies in
      elim (falls l r (length (spots_of old.world)) (world_in l old) v x rest more to place (h.running.stack (length old.stack.items - 1) x e) flies t below) [
        | inl p ↦ record {
          running = running_dropped x old new h.running dr;
          on = dr.ended ∙ h.on;
          fine = subst (λ (w : OwnWorld). IsFine (names_in l) (length (spots_of w)) d) (sym dr.world) h.fine;
          flies = subst (λ (w : OwnWorld). Flies l (world_of (names_in l) w) v (reverse new.stack.items) more to) (sym dr.world) (subst (λ (ws : List Waiting). Flies l (world_in l old) v (reverse ws) more to) (sym dr.stack) p.flies);
          whole =
              (λ i. unwinds (run_face l) (bodies_in l) (world_of (names_in l) (dr.world i)) (dr.classes i) v (stack_of (names_in l) script (dr.stack i)) (drop (dr.next i) script))
              ∙ sym (p.same (classes_in l old) (stack_of (names_in l) script (below_top old.stack.items)) script (script_in script old))
              ∙ ap (λ (ws : List NamedWaiting). unwinds (run_face l) (bodies_in l) (world_in l old) (classes_in l old) v ws (script_in script old)) (sym (popped_named (names_in l) script old.stack.items x e))
              ∙ h.whole;
          space = subst (λ (w : OwnWorld). HasSpace w (length more)) (sym dr.world) h.space;
          room = subst (λ (w : OwnWorld). HasRoom w 1) (sym dr.world) h.room;
        }
        | inr q ↦ absurd (apart q.more (q.is ∙ ap (λ (k : ℕ). k ∷ q.more) count))
      ]

  -- it is replaced at the top by a new object, which has been put on the heap
  pub fall_replaced : (x : Waiting) (old new : State) (w : OwnWorld) (more others : List ℕ) (d : Datum) → IsFalling l steps script all to old more d → place + 1 < length old.stack.items → last_of old.stack.items ≡ Some x → more ≡ (length old.stack.items - 1) ∷ others
      → IsHeap old.world w (spots_of old.world ++ new_spot (thing.Instance (plain 16)) ∷ []) → HasSpace w (length others) → HasRoom w 1 → IsDropped l x (record old { world = w }) new → IsFalling l steps script all to new others (datum.Object (length (spots_of old.world)))
  fall_replaced x old new w more others d h low e is heap space room dr =
      let rest = reverse (below_top old.stack.items) in
      let count = below_count old.stack.items in
      let below : place < length rest = omega (arith, low, count) in
      let v = value_of (names_in l) d in
      let made = datum.Object (length (spots_of old.world)) in
      let kind = plain_kind l.types r.tabled.named.types 16 (omega arith) in
      let sound = instance_sound l old.world w (plain 16) heap (record { there = kind; deep = omega arith }) h.running.world in
      let long = ap length heap.heap ∙ length-append (spots_of old.world) (new_spot (thing.Instance (plain 16)) ∷ []) in
      let larger : length (spots_of old.world) ≤ length (spots_of w) = omega (arith, long) in
      let mid = record old { world = w } in
      let running = running_world l steps old mid h.running sound larger heap.locks refl refl in
      let name : name_at l.types 16 ≡ initialiser_error = known_at l.types r.tabled.named.types 16 initialiser_error refl in
      let named : world_of (names_in l) w ≡ with_thing (world_in l old) (fresh initialiser_error) = instance_named (names_in l) old.world w (plain 16) heap h.running.world.written ∙ ap (λ (c : Text). with_thing (world_in l old) (fresh c)) name in
      let value : next_object (world_in l old) ≡ value_of (names_in l) made = next_is (names_in l) old.world in
      let inside : length (spots_of old.world) < length (spots_of w) = omega (arith, long) in
      let flies : Flies l (world_in l old) v (x ∷ rest) more to = subst (λ (ws : List Waiting). Flies l (world_in l old) v ws more to) (top_first old.stack.items x e) h.flies in
      elim (falls l r (length (spots_of old.world)) (world_in l old) v x rest more to place (h.running.stack (length old.stack.items - 1) x e) flies t below) [
        | inl p ↦ absurd (p.apart others (is ∙ ap (λ (k : ℕ). k ∷ others) (sym count)))
        | inr q ↦
            let both : length rest ∷ q.more ≡ (length old.stack.items - 1) ∷ others = sym q.is ∙ is in
            let same : q.more ≡ others = cc in
            record {
              running = running_dropped x mid new running dr;
              on = dr.ended ∙ h.on;
              fine = subst (λ (u : OwnWorld). IsFine (names_in l) (length (spots_of u)) made) (sym dr.world) inside;
              flies = subst (λ (u : OwnWorld). Flies l (world_of (names_in l) u) (value_of (names_in l) made) (reverse new.stack.items) others to) (sym dr.world)
                  (subst (λ (ws : List Waiting). Flies l (world_of (names_in l) w) (value_of (names_in l) made) (reverse ws) others to) (sym dr.stack)
                  (subst (λ (u : World). Flies l u (value_of (names_in l) made) rest others to) (sym named)
                  (subst (λ (y : Value). Flies l (with_thing (world_in l old) (fresh initialiser_error)) y rest others to) value
                  (subst (λ (ms : List ℕ). Flies l (with_thing (world_in l old) (fresh initialiser_error)) (next_object (world_in l old)) rest ms to) same q.flies))));
              whole =
                  (λ i. unwinds (run_face l) (bodies_in l) (world_of (names_in l) (dr.world i)) (dr.classes i) (value_of (names_in l) made) (stack_of (names_in l) script (dr.stack i)) (drop (dr.next i) script))
                  ∙ (λ i. unwinds (run_face l) (bodies_in l) (named i) (classes_after l (failing x) (classes_in l old)) (sym value i) (stack_of (names_in l) script (below_top old.stack.items)) (script_in script old))
                  ∙ sym (q.same (classes_in l old) (stack_of (names_in l) script (below_top old.stack.items)) script (script_in script old))
                  ∙ ap (λ (ws : List NamedWaiting). unwinds (run_face l) (bodies_in l) (world_in l old) (classes_in l old) v ws (script_in script old)) (sym (popped_named (names_in l) script old.stack.items x e))
                  ∙ h.whole;
              space = subst (λ (u : OwnWorld). HasSpace u (length others)) (sym dr.world) space;
              room = subst (λ (u : OwnWorld). HasRoom u 1) (sym dr.world) room;
            }
      ]

  pub fall_past : (old new : State) (more : List ℕ) (d : Datum) → IsFalling l steps script all to old more d → place + 1 < length old.stack.items → DropsTop (last_of old.stack.items) old new → ((others : List ℕ) → more ≡ (length old.stack.items - 1) ∷ others → ⊥) → IsFalling l steps script all to new more d
  fall_past old new more d h low drops apart =
      let top = entry_at old.stack.items (length old.stack.items - 1) (omega (arith, low)) in
      fall_on top.0 old new more d h low top.1 (dropped l r steps old new h.running top.0 top.1 drops) apart

  pub fall_noted : (old new : State) (w : OwnWorld) (more others : List ℕ) (d : Datum) → IsFalling l steps script all to old more d → place + 1 < length old.stack.items → more ≡ (length old.stack.items - 1) ∷ others
      → IsHeap old.world w (spots_of old.world ++ new_spot (thing.Instance (plain 16)) ∷ []) → HasSpace w (length others) → HasRoom w 1 → DropsTop (last_of old.stack.items) (record old { world = w }) new → IsFalling l steps script all to new others (datum.Object (length (spots_of old.world)))
  fall_noted old new w more others d h low is heap space room drops =
      let top = entry_at old.stack.items (length old.stack.items - 1) (omega (arith, low)) in
      let kind = plain_kind l.types r.tabled.named.types 16 (omega arith) in
      let sound = instance_sound l old.world w (plain 16) heap (record { there = kind; deep = omega arith }) h.running.world in
      let long = ap length heap.heap ∙ length-append (spots_of old.world) (new_spot (thing.Instance (plain 16)) ∷ []) in
      let larger : length (spots_of old.world) ≤ length (spots_of w) = omega (arith, long) in
      let mid = record old { world = w } in
      let running = running_world l steps old mid h.running sound larger heap.locks refl refl in
      fall_replaced top.0 old new w more others d h low top.1 is heap space room (dropped l r steps mid new running top.0 top.1 drops)

-- what is noted of a list from a place on
pub noted_there : (ws : List ℕ) (i k : ℕ) → noted (slice_get ws i) k ≡ true → drop i ws ≡ k ∷ drop (suc i) ws
noted_there [] i k e = absurd (true≢false (sym e))
noted_there (x ∷ xs) zero k e = ap (λ (y : ℕ). y ∷ xs) (eqb-true x k e)
noted_there (x ∷ xs) (suc i) k e = noted_there xs i k e

pub noted_inside : (ws : List ℕ) (i k : ℕ) → noted (slice_get ws i) k ≡ true → i < length ws
noted_inside [] i k e = absurd (true≢false (sym e))
noted_inside (x ∷ xs) zero k e = omega arith
noted_inside (x ∷ xs) (suc i) k e = let low = noted_inside xs i k e in omega (arith, low)

pub not_noted : (ws : List ℕ) (i k : ℕ) (others : List ℕ) → noted (slice_get ws i) k ≡ false → drop i ws ≡ k ∷ others → ⊥
not_noted [] zero k others e f = absurd (cc)
not_noted [] (suc i) k others e f = absurd (cc)
not_noted (x ∷ xs) zero k others e f = let same : x ≡ k = cc in absurd (true≢false (sym (eq-eqb x k same) ∙ e))
not_noted (x ∷ xs) (suc i) k others e f = not_noted xs i k others e f

-- ---- where it lands

pub record HandlesAt (l : Lookups) (w : World) (v : Value) (x : Waiting) (at : ℕ) : Type 0 where
  pub frame : Frame
  pub is : x ≡ waiting.Method frame
  pub lands : lands_at l w v frame ≡ Some at

pub record ReachesAt (l : Lookups) (w : World) (v : Value) (x : Waiting) (shown : Exhibit) : Type 0 where
  pub owes : Option Kind
  pub pending : Option ℕ
  pub is : x ≡ waiting.Outside owes pending
  pub shows : Exhibits w v shown

module _ (l : Lookups) (rest : List Waiting) (wraps : List ℕ) (place : ℕ) (low : length rest ≤ place) where
  not_below : (w : World) (v : Value) (more : List ℕ) (to : Landing) → Flies l w v rest more to → LandsThere to place → ⊥
  not_below w v more to h t = absurd (let below = flies_low l w v rest more to place h t in omega (arith, below, low))

  pub handled : (w : World) (v : Value) (x : Waiting) (at : ℕ) → Flies l w v (x ∷ rest) wraps (landing.Handler place at) → HandlesAt l w v x at
  handled w v (waiting.Method f) at h = by (lands_at l w v f) refl h
    where
      by : (o : Option ℕ) → lands_at l w v f ≡ o → LandsOr (length rest) wraps (landing.Handler place at) o (Flies l w v rest wraps (landing.Handler place at)) → HandlesAt l w v (waiting.Method f) at
      by (Some k) e g = (let both : landing.Handler place at ≡ landing.Handler (length rest) k = g.1 in let same : k ≡ at = cc in record { frame = f; is = refl; lands = e ∙ ap (λ (n : ℕ). Some n) same })
      by None e g = absurd (not_below w v wraps (landing.Handler place at) g refl)
  handled w v (waiting.Initialiser class above next) at h = absurd (not_below w v wraps (landing.Handler place at) h refl)
  handled w v (waiting.Ending class) at h = by ((run_face l).under (kind_of w v) error_type) h
    where
      by : (b : Bool) → IfUnder b (Flies l w v rest wraps (landing.Handler place at)) ((more : List ℕ) × ((wraps ≡ length rest ∷ more) × Flies l (with_thing w (fresh initialiser_error)) (next_object w) rest more (landing.Handler place at))) → HandlesAt l w v (waiting.Ending class) at
      by true g = absurd (not_below w v wraps (landing.Handler place at) g refl)
      by false g = absurd (not_below (with_thing w (fresh initialiser_error)) (next_object w) g.0 (landing.Handler place at) g.1.1 refl)
  handled w v (waiting.Outside owes pending) at h = absurd (let no : landing.Handler place at ≡ landing.Framework (length rest) h.1.0 = h.1.1.0 in cc)

  pub reached : (w : World) (v : Value) (x : Waiting) (shown : Exhibit) → Flies l w v (x ∷ rest) wraps (landing.Framework place shown) → ReachesAt l w v x shown
  reached w v (waiting.Method f) shown h = by (lands_at l w v f) h
    where
      by : (o : Option ℕ) → LandsOr (length rest) wraps (landing.Framework place shown) o (Flies l w v rest wraps (landing.Framework place shown)) → ReachesAt l w v (waiting.Method f) shown
      by (Some k) g = absurd (let no : landing.Framework place shown ≡ landing.Handler (length rest) k = g.1 in cc)
      by None g = absurd (not_below w v wraps (landing.Framework place shown) g refl)
  reached w v (waiting.Initialiser class above next) shown h = absurd (not_below w v wraps (landing.Framework place shown) h refl)
  reached w v (waiting.Ending class) shown h = by ((run_face l).under (kind_of w v) error_type) h
    where
      by : (b : Bool) → IfUnder b (Flies l w v rest wraps (landing.Framework place shown)) ((more : List ℕ) × ((wraps ≡ length rest ∷ more) × Flies l (with_thing w (fresh initialiser_error)) (next_object w) rest more (landing.Framework place shown))) → ReachesAt l w v (waiting.Ending class) shown
      by true g = absurd (not_below w v wraps (landing.Framework place shown) g refl)
      by false g = absurd (not_below (with_thing w (fresh initialiser_error)) (next_object w) g.0 (landing.Framework place shown) g.1.1 refl)
  reached w v (waiting.Outside owes pending) shown h =
      let both : landing.Framework place shown ≡ landing.Framework (length rest) h.1.0 = h.1.1.0 in
      let same : h.1.0 ≡ shown = cc in
      record { owes = owes; pending = pending; is = refl; shows = subst (Exhibits w v) same h.1.1.1 }

-- the entries of a stack, top first
pub reversed_sound : (l : Lookups) (size : ℕ) (xs : List Waiting) → AreSoundWaiting l size xs → (i : ℕ) (x : Waiting) → slice_get (reverse xs) i ≡ Some x → IsSoundWaiting l size x
reversed_sound l size [] s i x e = absurd (cc)
reversed_sound l size (y ∷ ys) s i x e = elim (got_last (reverse ys) y x i (ap (λ (zs : List Waiting). slice_get zs i) (sym (reverse-append (y ∷ []) ys)) ∙ e)) [
  | inl old ↦ reversed_sound l size ys (record { at = λ j z g. s.at (suc j) z g }) i x old
  | inr new ↦ subst (IsSoundWaiting l size) (sym new.1) (s.at 0 y refl)
]
