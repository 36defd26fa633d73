-- What is thrown goes down the stack below the framework's frame.
use Rattle.std.proofs.Common.{◌≡◌, ℕ, ◌+◌, ◌-◌, ◌≤◌, false, List, ◌++◌, length, map, take, arith, ap, sym, subst, ◌∙◌, length-append}
use Rattle.std.specs.Prelude.{◌^◌, drop, Option}
use Rattle.program_model.specs.declared.pass.Outside.{Outside}
use Rattle.dalvik_defs.specs.Stack.{unwinds}
use Rattle.dalvik_defs.specs.State.{Classes, Next, World}
use Rattle.dalvik_defs.specs.declared.events.Event.{Event}
use Rattle.dalvik_defs.specs.declared.script.Move.{Move}
use Rattle.dalvik_defs.specs.declared.state.Waiting.{Waiting as NamedWaiting}
use Rattle.dalvik_lookups.specs.Facing.{run_face}
use Rattle.dalvik_lookups.specs.Walks.{IsKept}
use Rattle.dalvik_lookups.specs.declared.lookups.Lookups.{Lookups}
use Rattle.dalvik_lookups.specs.declared.memo.Memo.{Memo}
use Rattle.dalvik_lookups.specs.declared.types.Kind.{Kind}
use Rattle.dalvik_state.specs.declared.datum.Datum.{Datum}
use Rattle.dalvik_state.specs.declared.gifts.Gifts.{Gifts}
use Rattle.dalvik_state.specs.declared.state.State.{State}
use Rattle.dalvik_state.specs.declared.state.Waiting.{Waiting}
use Rattle.dalvik_state.specs.Drafts.{give_all, gift_spots, given_things, given_world}
use Rattle.dalvik_state.specs.Giving.{AreGiven, IsGiven, IsGivenFine}
use Rattle.dalvik_state.specs.Runs.{below_in, bodies_in, classes_in, script_in, stack_in, world_in, IsEvent, IsNext, IsRun, IsUndone}
use Rattle.dalvik_state.specs.States.{below_top, classes_of, stack_of, AreKinds, HasRoom, HasSpace, IsRunning}
use Rattle.dalvik_state.specs.Views.{names_in, value_of, IsFine}
use Rattle.dalvik_state.specs.Worlds.{new_spot, spots_of, IsShort, Spot}
use Rattle.dalvik_state.proofs.Running.{paced_below, running_held, running_of, running_paced, running_stack, sound_below, stack_more, AreHeld, ArePaced, AreSoundWaiting}
use Rattle.dalvik_state.specs.declared.world.World.{World as OwnWorld}
use Rattle.dalvik_steps.specs.Entries.{thrown_by, IsThrown}
use Rattle.dalvik_steps.specs.Backs.{last_of}
use Rattle.dalvik_steps.specs.Flights.{HasFlightRoom, IsFlight}
use Rattle.dalvik_steps.specs.Turns.{IsAsItWas, IsReserved}
use Rattle.dalvik_steps.proofs.Undone.{running_same, sound_same, undone, world_same}
use Rattle.dalvik_steps.specs.declared.throwing.Flight.{Flight}
use Rattle.dalvik_steps.specs.declared.throwing.Thrown.TheVariants as thrown
use Rattle.dalvik_moves.specs.Moving.{IsMoving}

-- the objects of a move come on top of those that there are
gifts_more : (w : OwnWorld) (g : Gifts) → length (spots_of w) ≤ length (gift_spots w g)
gifts_more w g = let e = length-append (spots_of w) (map new_spot g.things.items) in omega (arith, e)

-- before it lands: the objects are given, and the framework's frame is gone
pub record IsReadyToLand (l : Lookups) (g : Gifts) (old mid : State) : Type 0 where
  pub given : AreGiven l g old.world mid.world
  pub stack : mid.stack.items ≡ below_top old.stack.items
  pub statuses : mid.statuses ≡ old.statuses
  pub next : mid.next ≡ old.next
  pub ended : mid.ended ≡ old.ended

module _ (l : Lookups) (o : Outside) (m : Memo) (script : List Move) (steps : ℕ) (old mid : State) (owes : Option Kind) (first : Move) (rest : List Move) (g : Gifts) (h : IsMoving l o m script steps old owes first rest) (r : IsReadyToLand l g old mid) where
  pub landing_runs : IsRunning l steps mid
  landing_runs =
      let more = gifts_more old.world g in
      let count = r.given.spots in
      let size : length (spots_of old.world) ≤ length (spots_of mid.world) = omega (arith, more, count) in
      running_of l steps mid r.given.sound (ap (λ v. length v.items) r.statuses ∙ h.run.state.classes)
      (subst (AreSoundWaiting l (length (spots_of mid.world))) (sym r.stack) (sound_below l (length (spots_of mid.world)) (length old.stack.items - 1) old.stack.items (stack_more l (length (spots_of old.world)) (length (spots_of mid.world)) old.stack.items size (running_stack l steps old h.run.state))))
      (subst (ArePaced (2 ^ 32 + steps)) (sym r.stack) (paced_below (2 ^ 32 + steps) (length old.stack.items - 1) old.stack.items (running_paced l steps old h.run.state)))
      (subst (λ x. AreHeld steps x.entries) (sym r.given.locks) (running_held l steps old h.run.state))

  pub landing_on : mid.ended ≡ false
  landing_on = r.ended ∙ h.run.on

  pub landing_fine : (d : Datum) → IsGivenFine l old.world g d → IsFine (names_in l) (length (spots_of mid.world)) d
  landing_fine d fine = subst (λ (k : ℕ). IsFine (names_in l) k d) (sym r.given.spots) fine

  pub landing_flight : (d : Datum) (f : Flight) → IsFlight l (given_world (names_in l) old.world g) (below_top old.stack.items) (thrown.Value d) f → IsFlight l (world_in l mid) mid.stack.items f.thrown f
  landing_flight d f fl =
      subst (λ t. IsFlight l (world_in l mid) mid.stack.items t f) (sym fl.thrown)
      (subst (λ (w : World). IsFlight l w mid.stack.items (thrown.Value d) f) (sym r.given.world)
      (subst (λ (ws : List Waiting). IsFlight l (given_world (names_in l) old.world g) ws (thrown.Value d) f) (sym r.stack) fl))

  pub landed : (d : Datum) (f : Flight) (new : State) (e : Option Event) → f.thrown ≡ thrown.Value d → IsEvent l steps script new e (thrown_by l f.thrown (world_in l mid) (classes_in l mid) (stack_in l script mid) (script_in script mid))
      → IsEvent l steps script new e (unwinds (run_face l) (bodies_in l) (given_world (names_in l) old.world g) (classes_in l old) (value_of (names_in l) d) (below_in l script old) rest)
  landed d f new e is event =
      let to : World → Classes → List NamedWaiting → List Move → Next = λ w classes ws ms. unwinds (run_face l) (bodies_in l) w classes (value_of (names_in l) d) ws ms in
      subst (IsEvent l steps script new e)
      (ap (λ t. thrown_by l t (world_in l mid) (classes_in l mid) (stack_in l script mid) (script_in script mid)) is
      ∙ ap (λ (w : World). to w (classes_in l mid) (stack_in l script mid) (script_in script mid)) r.given.world
      ∙ ap (λ v. to (given_world (names_in l) old.world g) (classes_of l.program.now v.items) (stack_in l script mid) (script_in script mid)) r.statuses
      ∙ ap (λ (ws : List Waiting). to (given_world (names_in l) old.world g) (classes_in l old) (stack_of (names_in l) script ws) (script_in script mid)) r.stack
      ∙ ap (λ (ms : List Move). to (given_world (names_in l) old.world g) (classes_in l old) (below_in l script old) ms) (ap (λ (k : ℕ). drop k script) r.next ∙ h.left))
      event

-- the run as it stands when look-ups have been kept
pub run_kept : (l : Lookups) (steps : ℕ) (m k : Memo) (s : State) → IsRun l m steps s → IsKept l k → IsRun l k steps s
run_kept l steps m k s r kept = record { right = r.right; kept = kept; state = r.state; early = r.early; on = r.on }

-- the same move, where other look-ups have been kept
pub moving_kept : (l : Lookups) (o : Outside) (m k : Memo) (script : List Move) (steps : ℕ) (s : State) (owes : Option Kind) (first : Move) (rest : List Move) → IsMoving l o m script steps s owes first rest → IsKept l k → IsMoving l o k script steps s owes first rest
moving_kept l o m k script steps s owes first rest h kept = record { run = run_kept l steps m k s h.run kept; reach = h.reach; place = h.place; top = h.top; waits = h.waits; left = h.left }

-- ---- room

pub room_exact : (w : OwnWorld) (count : ℕ) (f : Flight) → HasFlightRoom w count f → HasRoom w count
room_exact w count f h = let r = h.room.room in record { room = omega (arith, r) }

pub space_exact : (w : OwnWorld) (count : ℕ) (f : Flight) → HasFlightRoom w count f → HasSpace w count
space_exact w count f h = let r = h.space.space in record { space = omega (arith, r) }

pub room_for : (old new : OwnWorld) (mid : State) (f : Flight) (count : ℕ) → mid.world ≡ new → HasFlightRoom old count f
    → ((k : ℕ) → HasRoom old (count + k) → HasRoom new k) → ((k : ℕ) → HasSpace old (count + k) → HasSpace new k) → HasFlightRoom mid.world 0 f
room_for old new mid f count is h rooms spaces =
    let all : 0 + (length f.wraps.items + 1) ≡ length f.wraps.items + 1 = omega arith in
    subst (λ (w : OwnWorld). HasFlightRoom w 0 f) (sym is) (record {
      space = subst (HasSpace new) (sym all) (spaces (length f.wraps.items + 1) h.space);
      room = subst (HasRoom new) (sym all) (rooms (length f.wraps.items + 1) h.room);
    })

pub gives_in : (l : Lookups) (g : Gifts) (old new : OwnWorld) (mid : State) → AreGiven l g old new → mid.world ≡ new → AreGiven l g old mid.world
gives_in l g old new mid a is = subst (AreGiven l g old) (sym is) a

pub thrown_fine : (l : Lookups) (mid : State) (d : Datum) (f : Flight) → f.thrown ≡ thrown.Value d → IsFine (names_in l) (length (spots_of mid.world)) d → IsThrown l (length (spots_of mid.world)) f.thrown
thrown_fine l mid d f is fine = subst (IsThrown l (length (spots_of mid.world))) (sym is) fine

-- ---- what was planned

pub planned_undone : (l : Lookups) (steps : ℕ) (old new : State) → IsRunning l steps old → old.ended ≡ false → IsReserved old new → IsUndone l steps old new
planned_undone l steps old new r on same = undone l steps old new r on same

-- the objects of a move, where only room was made
pub given_same : (l : Lookups) (g : Gifts) (old new : OwnWorld) → IsAsItWas old new → IsGiven l old g → IsGiven l new g
given_same l g old new same h =
    let spots : gift_spots new g ≡ gift_spots old g = ap (λ (ss : List Spot). ss ++ map new_spot g.things.items) same.heap in
    record { sound = sound_same l old new same h.sound; kinds = subst (AreKinds l) (sym spots) h.kinds; short = subst IsShort (sym spots) h.short; fine = h.fine }

pub moving_same : (l : Lookups) (o : Outside) (m : Memo) (script : List Move) (steps : ℕ) (old new : State) (owes : Option Kind) (first : Move) (rest : List Move) → IsReserved old new → IsMoving l o m script steps old owes first rest → IsMoving l o m script steps new owes first rest
moving_same l o m script steps old new owes first rest same h = record {
  run = record { right = h.run.right; kept = h.run.kept; state = running_same l steps old new h.run.state same; early = h.run.early; on = same.ended ∙ h.run.on };
  reach = h.reach;
  place = h.place;
  top = ap last_of same.stack ∙ h.top;
  waits = h.waits;
  left = ap (λ (k : ℕ). drop k script) same.next ∙ h.left;
}

pub planned_event : (l : Lookups) (o : Outside) (m k : Memo) (script : List Move) (steps : ℕ) (old mid new : State) (owes : Option Kind) (first : Move) (rest : List Move) (g : Gifts) (d : Datum) (f : Flight) (e : Option Event) (top : ℕ)
    → IsMoving l o m script steps old owes first rest → IsGiven l old.world g → IsGivenFine l old.world g d → IsReserved old mid → IsKept l k → top ≡ length old.stack.items - 1
    → IsFlight l (given_world (names_in l) old.world g) (take top old.stack.items) (thrown.Value d) f → HasFlightRoom mid.world (length g.things.items) f
    → (IsMoving l o k script steps mid owes first rest → IsGiven l mid.world g → IsGivenFine l mid.world g d → IsFlight l (given_world (names_in l) mid.world g) (below_top mid.stack.items) (thrown.Value d) f → HasFlightRoom mid.world (length g.things.items) f
    → IsEvent l steps script new e (unwinds (run_face l) (bodies_in l) (given_world (names_in l) mid.world g) (classes_in l mid) (value_of (names_in l) d) (below_in l script mid) rest))
    → IsNext l steps script k new e (unwinds (run_face l) (bodies_in l) (given_world (names_in l) old.world g) (classes_in l old) (value_of (names_in l) d) (below_in l script old) rest)
planned_event l o m k script steps old mid new owes first rest g d f e top h given fine same kept is flight room ends =
    let n = names_in l in
    let world : given_world n mid.world g ≡ given_world n old.world g = ap (λ (w : World). give_all w (given_things n g.things.items)) (world_same n old.world mid.world same.world) in
    let spots : gift_spots mid.world g ≡ gift_spots old.world g = ap (λ (ss : List Spot). ss ++ map new_spot g.things.items) same.world.heap in
    let below : below_top mid.stack.items ≡ below_top old.stack.items = ap below_top same.stack in
    let there = subst (λ (ws : List Waiting). IsFlight l (given_world n old.world g) ws (thrown.Value d) f) (ap (λ (j : ℕ). take j old.stack.items) is ∙ sym below) flight in
    let event = ends (moving_kept l o m k script steps mid owes first rest (moving_same l o m script steps old mid owes first rest same h) kept) (given_same l g old.world mid.world same.world given)
    (subst (λ (ss : List Spot). IsFine n (length ss) d) (sym spots) fine) (subst (λ (w : World). IsFlight l w (below_top mid.stack.items) (thrown.Value d) f) (sym world) there) room in
    let to : World → Classes → List NamedWaiting → Next = λ w classes ws. unwinds (run_face l) (bodies_in l) w classes (value_of n d) ws rest in
    record {
      event = subst (IsEvent l steps script new e)
          (ap (λ (w : World). to w (classes_in l mid) (below_in l script mid)) world
          ∙ ap (λ xs. to (given_world n old.world g) (classes_of l.program.now xs) (below_in l script mid)) same.statuses
          ∙ ap (λ (ws : List Waiting). to (given_world n old.world g) (classes_in l old) (stack_of n script ws)) below) event;
      kept = kept;
    }

pub next_same : (l : Lookups) (steps : ℕ) (script : List Move) (m : Memo) (s : State) (e : Option Event) (a b : Next) → a ≡ b → IsNext l steps script m s e a → IsNext l steps script m s e b
next_same l steps script m s e a b same h = subst (IsNext l steps script m s e) same h
