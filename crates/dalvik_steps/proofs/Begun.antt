-- What is thrown begins its way.
use Rattle.std.proofs.Common.{◌≡◌, ℕ, zero, suc, ◌+◌, ◌<◌, false, List, [], ◌∷◌, ◌++◌, length, map, take, arith, ap, refl, sym, subst, ◌∙◌, append-nil, length-append}
use Rattle.std.specs.Prelude.{drop, reverse}
use Rattle.dalvik_defs.specs.Stack.{unwinds}
use Rattle.dalvik_defs.specs.State.{Classes, World}
use Rattle.dalvik_defs.specs.declared.script.Move.{Move}
use Rattle.dalvik_defs.specs.declared.state.Value.{Value}
use Rattle.dalvik_defs.specs.declared.state.Waiting.{Waiting as NamedWaiting}
use Rattle.dalvik_lookups.specs.Facing.{run_face}
use Rattle.dalvik_lookups.specs.Tables.{IsRight}
use Rattle.dalvik_lookups.specs.declared.lookups.Lookups.{Lookups}
use Rattle.dalvik_state.specs.declared.datum.Datum.{Datum}
use Rattle.dalvik_state.specs.declared.datum.Datum.TheVariants as datum
use Rattle.dalvik_state.specs.declared.gifts.Gifts.{Gifts}
use Rattle.dalvik_state.specs.declared.state.State.{State}
use Rattle.dalvik_state.specs.declared.state.Waiting.{Waiting}
use Rattle.dalvik_state.specs.declared.world.Thing.{Thing as OwnThing}
use Rattle.dalvik_state.specs.declared.world.Thing.TheVariants as thing
use Rattle.dalvik_state.specs.declared.world.World.{World as OwnWorld}
use Rattle.dalvik_state.specs.Drafts.{give_all, gift_spots, given_things, given_world}
use Rattle.dalvik_state.specs.Effects.{plain}
use Rattle.dalvik_state.specs.Giving.{IsGiven}
use Rattle.dalvik_state.specs.Runs.{bodies_in, classes_in, script_in, stack_in, world_in}
use Rattle.dalvik_state.specs.States.{classes_of, stack_of, AreKinds, HasRoom, HasSpace, IsRunning, IsSound}
use Rattle.dalvik_state.specs.Views.{AreFineSpots, IsFine, Names, names_in, value_of, world_of}
use Rattle.dalvik_state.specs.Worlds.{IsShort, Spot, new_spot, spots_of, IsHeap}
use Rattle.dalvik_state.proofs.Running.{running_world}
use Rattle.dalvik_state.proofs.Things.{next_is}
use Rattle.dalvik_steps.specs.declared.throwing.Flight.{Flight}
use Rattle.dalvik_steps.specs.declared.throwing.Thrown.{Thrown}
use Rattle.dalvik_steps.specs.declared.throwing.Thrown.TheVariants as thrown
use Rattle.dalvik_steps.specs.Entries.{thrown_by, IsThrown}
use Rattle.dalvik_steps.specs.Falls.{IsFalling, IsThrownInto}
use Rattle.dalvik_steps.specs.Flights.{thrown_value, thrown_world, Flies, IsFlight, IsThrownWith}
use Rattle.dalvik_steps.specs.Turns.{IsReserved}
use Rattle.dalvik_steps.proofs.Flying.{plain_kind}
use Rattle.dalvik_steps.proofs.Made.{instance_named, instance_sound}
use Rattle.dalvik_steps.proofs.Undone.{world_same}

-- ---- no objects of a move

pub given_none : (n : Names) (w : OwnWorld) (g : Gifts) → g.things.items ≡ [] → given_world n w g ≡ world_of n w
given_none n w g e = ap (λ (ts : List OwnThing). give_all (world_of n w) (given_things n ts)) e

pub spots_none : (w : OwnWorld) (g : Gifts) → g.things.items ≡ [] → gift_spots w g ≡ spots_of w
spots_none w g e = ap (λ (ts : List OwnThing). spots_of w ++ map new_spot ts) e ∙ append-nil (spots_of w)

no_spots : (l : Lookups) → AreFineSpots (names_in l) 0 []
no_spots l = record { at = λ i s e. absurd (cc) }

pub nothing_given : (l : Lookups) (w : OwnWorld) (g : Gifts) → g.things.items ≡ [] → IsSound l w → IsGiven l w g
nothing_given l w g e s = record {
  sound = s;
  kinds = subst (AreKinds l) (sym (spots_none w g e)) s.kinds;
  short = subst IsShort (sym (spots_none w g e)) s.short;
  fine = subst (λ (ts : List OwnThing). AreFineSpots (names_in l) 0 (map new_spot ts)) (sym e) (no_spots l);
}

pub thrown_with : (l : Lookups) (w : OwnWorld) (g : Gifts) (t : Thrown) → g.things.items ≡ [] → IsThrown l (length (spots_of w)) t → IsThrownWith l w g t
thrown_with l w g (thrown.Value d) e h = subst (λ (ss : List Spot). IsFine (names_in l) (length ss) d) (sym (spots_none w g e)) h
thrown_with l w g (thrown.New class) e h = h

pub take_all : (xs : List Waiting) (k : ℕ) → k ≡ length xs → take k xs ≡ xs
take_all [] zero h = refl
take_all [] (suc k) h = refl
take_all (x ∷ xs) zero h = absurd (omega (arith, h))
take_all (x ∷ xs) (suc k) h = ap (λ (ys : List Waiting). x ∷ ys) (take_all xs k (omega (arith, h)))

-- ---- what is thrown

space_less : (w : OwnWorld) (count : ℕ) → HasSpace w (count + 1) → HasSpace w count
space_less w count h = let s = h.space in record { space = omega (arith, s) }

pub room_one : (w : OwnWorld) (count : ℕ) → HasRoom w (count + 1) → HasRoom w 1
room_one w count h = let s = h.room in record { room = omega (arith, s) }

pub space_one : (w : OwnWorld) (count : ℕ) → HasSpace w (count + 1) → HasSpace w 1
space_one w count h = let s = h.space in record { space = omega (arith, s) }

pub throws_value : (l : Lookups) (d : Datum) (count : ℕ) (w : OwnWorld) → IsSound l w → IsFine (names_in l) (length (spots_of w)) d → HasSpace w (count + 1) → HasRoom w (count + 1) → IsThrownInto l (thrown.Value d) count w w d
throws_value l d count w sound fine space room = record {
  value = refl;
  world = refl;
  fine = fine;
  sound = sound;
  more = omega arith;
  locks = refl;
  space = space_less w count space;
  room = room_one w count room;
}

pub throws_made : (l : Lookups) → IsRight l → (class count : ℕ) (old new : OwnWorld) → IsSound l old → class < 20 → IsHeap old new (spots_of old ++ new_spot (thing.Instance (plain class)) ∷ []) → HasSpace new count → HasRoom new 1
    → IsThrownInto l (thrown.New class) count old new (datum.Object (length (spots_of old)))
throws_made l r class count old new sound low heap space room =
    let long = ap length heap.heap ∙ length-append (spots_of old) (new_spot (thing.Instance (plain class)) ∷ []) in
    record {
      value = sym (next_is (names_in l) old);
      world = instance_named (names_in l) old new (plain class) heap sound.written;
      fine = omega (arith, long);
      sound = instance_sound l old new (plain class) heap (record { there = plain_kind l.types r.tabled.named.types class low; deep = omega arith }) sound;
      more = omega (arith, long);
      locks = heap.locks;
      space = space;
      room = room;
    }

thrown_is : (l : Lookups) (t : Thrown) (w : World) (classes : Classes) (stack : List NamedWaiting) (script : List Move) → unwinds (run_face l) (bodies_in l) (thrown_world l w t) classes (thrown_value l w t) stack script ≡ thrown_by l t w classes stack script
thrown_is l (thrown.Value d) w classes stack script = refl
thrown_is l (thrown.New class) w classes stack script = refl

-- it begins to fall
pub falling_of : (l : Lookups) (steps : ℕ) (script : List Move) (old : State) (w : OwnWorld) (f : Flight) (d : Datum) → IsRunning l steps old → old.ended ≡ false → IsThrownInto l f.thrown (length f.wraps.items) old.world w d → IsFlight l (world_in l old) old.stack.items f.thrown f
    → IsFalling l steps script (thrown_by l f.thrown (world_in l old) (classes_in l old) (stack_in l script old) (script_in script old)) f.landing (record old { world = w }) f.wraps.items d
falling_of l steps script old w f d run on t h = record {
  running = running_world l steps old (record old { world = w }) run t.sound t.more t.locks refl refl;
  on = on;
  fine = t.fine;
  flies = subst (λ (u : World). Flies l u (value_of (names_in l) d) (reverse old.stack.items) f.wraps.items f.landing) (sym t.world)
      (subst (λ (v : Value). Flies l (thrown_world l (world_in l old) f.thrown) v (reverse old.stack.items) f.wraps.items f.landing) (sym t.value) h.flies);
  whole = (λ i. unwinds (run_face l) (bodies_in l) (t.world i) (classes_in l old) (t.value i) (stack_in l script old) (script_in script old)) ∙ thrown_is l f.thrown (world_in l old) (classes_in l old) (stack_in l script old) (script_in script old);
  space = t.space;
  room = t.room;
}

-- ---- what is thrown where there is room for its way

-- it goes its way from the state that it was planned in
pub thrown_same : (l : Lookups) (script : List Move) (old new : State) (t : Thrown) → IsReserved old new
    → thrown_by l t (world_in l new) (classes_in l new) (stack_in l script new) (script_in script new) ≡ thrown_by l t (world_in l old) (classes_in l old) (stack_in l script old) (script_in script old)
thrown_same l script old new t h = λ i. thrown_by l t (world_same (names_in l) old.world new.world h.world i) (classes_of l.program.now (h.statuses i)) (stack_of (names_in l) script (h.stack i)) (drop (h.next i) script)

pub still_thrown : (l : Lookups) (old new : State) (t u : Thrown) → IsReserved old new → u ≡ t → IsThrown l (length (spots_of old.world)) t → IsThrown l (length (spots_of new.world)) u
still_thrown l old new t u h e is = subst (IsThrown l (length (spots_of new.world))) (sym e) (subst (λ (ss : List Spot). IsThrown l (length ss) t) (sym h.world.heap) is)

pub flight_begins : (l : Lookups) (old new : State) (g : Gifts) (t : Thrown) (top : ℕ) (f : Flight) → g.things.items ≡ [] → IsReserved old new → top ≡ length old.stack.items → IsFlight l (given_world (names_in l) old.world g) (take top old.stack.items) t f
    → IsFlight l (world_in l new) new.stack.items f.thrown f
flight_begins l old new g t top f e h k x =
    let world : given_world (names_in l) old.world g ≡ world_in l new = given_none (names_in l) old.world g e ∙ sym (world_same (names_in l) old.world new.world h.world) in
    let stack : take top old.stack.items ≡ new.stack.items = take_all old.stack.items top k ∙ sym h.stack in
    subst (λ (u : World). IsFlight l u new.stack.items f.thrown f) world
    (subst (λ (ws : List Waiting). IsFlight l (given_world (names_in l) old.world g) ws f.thrown f) stack
    (subst (λ (u : Thrown). IsFlight l (given_world (names_in l) old.world g) (take top old.stack.items) u f) (sym x.thrown) x))
