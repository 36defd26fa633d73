-- What a run keeps stays so: as steps are made, as objects are made, and as entries of the stack come and go.
use Rattle.std.proofs.Common.{◌≡◌, ℕ, zero, suc, ◌+◌, ◌-◌, ◌<◌, ◌≤◌, ◌⊎◌, inl, inr, List, [], ◌∷◌, ◌++◌, length, take, arith, ap, refl, sym, subst, ◌∙◌}
use Rattle.std.specs.Prelude.{◌^◌, Option, Some, None, slice_get, slice_set}
use Rattle.std.specs.Option.{option_map}
use Rattle.insn_set.specs.declared.ops.Item.{Item}
use Rattle.program_model.specs.declared.program.MethodAt.{MethodAt}
use Rattle.program_model.specs.Lookups as look
use Rattle.dalvik_lookups.proofs.Interned.{got_last}
use Rattle.dalvik_lookups.specs.declared.lookups.Lookups.{Lookups}
use Rattle.dalvik_lookups.specs.declared.types.Kind.{Kind}
use Rattle.dalvik_defs.specs.Naming.{method_at}
use Rattle.dalvik_defs.specs.declared.script.Move.{Move}
use Rattle.dalvik_defs.specs.declared.state.Waiting.TheVariants.{Outside}
use Rattle.dalvik_state.specs.declared.datum.Datum.{Datum}
use Rattle.dalvik_state.specs.declared.frame.Frame.{Frame}
use Rattle.dalvik_state.specs.declared.state.State.{State}
use Rattle.dalvik_state.specs.declared.state.Waiting.{Waiting as OwnWaiting}
use Rattle.dalvik_state.specs.declared.state.Waiting.TheVariants as waiting
use Rattle.dalvik_state.specs.declared.world.World.{World}
use Rattle.dalvik_state.specs.Frames.{cell, with_item, GoesOn, Handles, IsSameCode}
use Rattle.dalvik_state.specs.States.{below_top, move_of, pending_top, stack_of, top_frame, waiting_of, with_pending, ChangesTop, IsRunning, IsSound, IsSoundFrame, IsSoundWaiting, KeepsRest}
use Rattle.dalvik_state.specs.Views.{AreFine, IsFine, IsFineFrame, Names, names_in}
use Rattle.dalvik_state.specs.Worlds.{spots_of}
use Rattle.dalvik_state.proofs.Fine.{fine_cells, fine_frame, fine_item}
use Rattle.dalvik_state.proofs.Tops.{last_named, set_own, split_last, top_there}

-- one more step has been made
pub running_more : (l : Lookups) (steps : ℕ) (s : State) → IsRunning l steps s → IsRunning l (steps + 1) s
running_more l steps s r = record {
  world = r.world;
  classes = r.classes;
  stack = r.stack;
  paced = λ i f e. let h = r.paced i f e in omega (arith, h);
  held = λ i e g. let h = r.held i e g in omega (arith, h);
}

-- ---- objects that are made

pub sound_frame_more : (l : Lookups) (size more : ℕ) (f : Frame) → size ≤ more → IsSoundFrame l size f → IsSoundFrame l more f
sound_frame_more l size more f h s = record {
  fine = fine_frame (names_in l) size more f h s.fine;
  own = s.own;
  class = s.class;
  found = s.found;
  body = s.body;
  name = s.name;
  within = s.within;
  of_class = s.of_class;
}

pub sound_waiting_more : (l : Lookups) (size more : ℕ) (w : OwnWaiting) → size ≤ more → IsSoundWaiting l size w → IsSoundWaiting l more w
sound_waiting_more l size more (waiting.Method f) h s = sound_frame_more l size more f h s
sound_waiting_more l size more (waiting.Initialiser class above next) h s = s
sound_waiting_more l size more (waiting.Ending class) h s = s
sound_waiting_more l size more (waiting.Outside owes pending) h s = s

-- the entries of a stack are right where there are so many objects
pub record AreSoundWaiting (l : Lookups) (size : ℕ) (stack : List OwnWaiting) : Type 0 where
  pub at : (i : ℕ) (w : OwnWaiting) → slice_get stack i ≡ Some w → IsSoundWaiting l size w

-- their positions are no further than this
pub record ArePaced (most : ℕ) (stack : List OwnWaiting) : Type 0 where
  pub at : (i : ℕ) (f : Frame) → slice_get stack i ≡ Some (waiting.Method f) → f.position ≤ most

-- no count of a lock is larger than this
pub record AreHeld (most : ℕ) (locks : List (Datum × ℕ)) : Type 0 where
  pub at : (i : ℕ) (e : Datum × ℕ) → slice_get locks i ≡ Some e → e.1 ≤ most

pub running_stack : (l : Lookups) (steps : ℕ) (s : State) → IsRunning l steps s → AreSoundWaiting l (length (spots_of s.world)) s.stack.items
running_stack l steps s r = record { at = r.stack }

pub running_paced : (l : Lookups) (steps : ℕ) (s : State) → IsRunning l steps s → ArePaced (2 ^ 32 + steps) s.stack.items
running_paced l steps s r = record { at = r.paced }

pub running_held : (l : Lookups) (steps : ℕ) (s : State) → IsRunning l steps s → AreHeld steps s.world.locks.entries
running_held l steps s r = record { at = r.held }

-- a run, by its parts
pub running_of : (l : Lookups) (steps : ℕ) (s : State) → IsSound l s.world → length s.statuses.items ≡ length l.program.now.classes → AreSoundWaiting l (length (spots_of s.world)) s.stack.items → ArePaced (2 ^ 32 + steps) s.stack.items → AreHeld steps s.world.locks.entries
    → IsRunning l steps s
running_of l steps s world classes stack paced held = record { world = world; classes = classes; stack = stack.at; paced = paced.at; held = held.at }

pub stack_more : (l : Lookups) (size more : ℕ) (stack : List OwnWaiting) → size ≤ more → AreSoundWaiting l size stack → AreSoundWaiting l more stack
stack_more l size more stack h s = record { at = λ i w e. sound_waiting_more l size more w h (s.at i w e) }

pub paced_more : (most more : ℕ) (stack : List OwnWaiting) → most ≤ more → ArePaced most stack → ArePaced more stack
paced_more most more stack h s = record { at = λ i f e. let low = s.at i f e in omega (arith, h, low) }

pub held_more : (most more : ℕ) (locks : List (Datum × ℕ)) → most ≤ more → AreHeld most locks → AreHeld more locks
held_more most more locks h s = record { at = λ i e g. let low = s.at i e g in omega (arith, h, low) }

-- the world of a run is another one, with at least as many objects and the same locks
pub running_world : (l : Lookups) (steps : ℕ) (old new : State) → IsRunning l steps old → IsSound l new.world → length (spots_of old.world) ≤ length (spots_of new.world) → new.world.locks ≡ old.world.locks → new.statuses ≡ old.statuses → new.stack ≡ old.stack
    → IsRunning l steps new
running_world l steps old new r sound more locks statuses stack = running_of l steps new sound (ap (λ v. length v.items) statuses ∙ r.classes)
    (subst (λ v. AreSoundWaiting l (length (spots_of new.world)) v.items) (sym stack) (stack_more l (length (spots_of old.world)) (length (spots_of new.world)) old.stack.items more (running_stack l steps old r)))
    (subst (λ v. ArePaced (2 ^ 32 + steps) v.items) (sym stack) (running_paced l steps old r))
    (subst (λ m. AreHeld steps m.entries) (sym locks) (running_held l steps old r))

-- ---- entries that come and go

-- an entry is pushed
pub pushed_named : (n : Names) (script : List Move) (xs : List OwnWaiting) (w : OwnWaiting) → stack_of n script (xs ++ w ∷ []) ≡ waiting_of n script w ∷ stack_of n script xs
pushed_named n script xs w = last_named n script xs w

-- the last entry, and what stands below it
pub popped_named : (n : Names) (script : List Move) (xs : List OwnWaiting) (w : OwnWaiting) → slice_get xs (length xs - 1) ≡ Some w → stack_of n script xs ≡ waiting_of n script w ∷ stack_of n script (below_top xs)
popped_named n script xs w e = ap (stack_of n script) (sym (set_own xs (length xs - 1) w e) ∙ split_last xs w e w) ∙ last_named n script (below_top xs) w

-- the last entry is another one
pub topped_by : (n : Names) (script : List Move) (xs : List OwnWaiting) (w v : OwnWaiting) → slice_get xs (length xs - 1) ≡ Some w → stack_of n script (slice_set xs (length xs - 1) v) ≡ waiting_of n script v ∷ stack_of n script (below_top xs)
topped_by n script xs w v e = ap (stack_of n script) (split_last xs w e v) ∙ last_named n script (below_top xs) v

pub sound_pushed : (l : Lookups) (size : ℕ) (xs : List OwnWaiting) (w : OwnWaiting) → AreSoundWaiting l size xs → IsSoundWaiting l size w → AreSoundWaiting l size (xs ++ w ∷ [])
sound_pushed l size xs w s h = record { at = λ i v e. elim (got_last xs w v i e) [ inl old ↦ s.at i v old | inr new ↦ subst (IsSoundWaiting l size) (sym new.1) h ] }

pub paced_pushed : (most : ℕ) (xs : List OwnWaiting) (w : OwnWaiting) → ArePaced most xs → ArePaced most (w ∷ []) → ArePaced most (xs ++ w ∷ [])
paced_pushed most xs w s h = record { at = λ i f e. elim (got_last xs w (waiting.Method f) i e) [ inl old ↦ s.at i f old | inr new ↦ h.at 0 f (ap (λ (v : OwnWaiting). Some v) (sym new.1)) ] }

-- one entry that is a frame at this position
pub one_paced : (most : ℕ) (g : Frame) → g.position ≤ most → ArePaced most (waiting.Method g ∷ [])
one_paced most g h = record { at = λ i f e. by i f e }
  where
    by : (i : ℕ) (f : Frame) → slice_get (waiting.Method g ∷ []) i ≡ Some (waiting.Method f) → f.position ≤ most
    by zero f e = (let same : g ≡ f = cc in subst (λ (x : Frame). x.position ≤ most) same h)
    by (suc i) f e = absurd (cc)

taken_at : (xs : List OwnWaiting) (k i : ℕ) (w : OwnWaiting) → slice_get (take k xs) i ≡ Some w → slice_get xs i ≡ Some w
taken_at xs zero i w e = absurd (cc)
taken_at [] (suc k) i w e = absurd (cc)
taken_at (x ∷ xs) (suc k) zero w e = e
taken_at (x ∷ xs) (suc k) (suc i) w e = taken_at xs k i w e

pub sound_below : (l : Lookups) (size k : ℕ) (xs : List OwnWaiting) → AreSoundWaiting l size xs → AreSoundWaiting l size (take k xs)
sound_below l size k xs s = record { at = λ i w e. s.at i w (taken_at xs k i w e) }

pub paced_below : (most k : ℕ) (xs : List OwnWaiting) → ArePaced most xs → ArePaced most (take k xs)
paced_below most k xs s = record { at = λ i f e. s.at i f (taken_at xs k i (waiting.Method f) e) }

-- an entry that is set
set_at : (xs : List OwnWaiting) (k i : ℕ) (v w : OwnWaiting) → slice_get (slice_set xs k v) i ≡ Some w → (slice_get xs i ≡ Some w) ⊎ (w ≡ v)
set_at [] k i v w e = absurd (cc)
set_at (x ∷ xs) zero zero v w e = inr (let same : v ≡ w = cc in sym same)
set_at (x ∷ xs) zero (suc i) v w e = inl e
set_at (x ∷ xs) (suc k) zero v w e = inl e
set_at (x ∷ xs) (suc k) (suc i) v w e = set_at xs k i v w e

pub sound_set : (l : Lookups) (size k : ℕ) (xs : List OwnWaiting) (v : OwnWaiting) → AreSoundWaiting l size xs → IsSoundWaiting l size v → AreSoundWaiting l size (slice_set xs k v)
sound_set l size k xs v s h = record { at = λ i w e. elim (set_at xs k i v w e) [ inl old ↦ s.at i w old | inr new ↦ subst (IsSoundWaiting l size) (sym new) h ] }

pub paced_set : (most k : ℕ) (xs : List OwnWaiting) (v : OwnWaiting) → ArePaced most xs → ArePaced most (v ∷ []) → ArePaced most (slice_set xs k v)
paced_set most k xs v s h = record { at = λ i f e. elim (set_at xs k i v (waiting.Method f) e) [ inl old ↦ s.at i f old | inr new ↦ h.at 0 f (ap (λ (u : OwnWaiting). Some u) (sym new)) ] }

-- ---- the framework's frame on top, with the move that waits there

pub pending_there : (place : Option ℕ) (xs : List OwnWaiting) (w : OwnWaiting) → slice_get xs (length xs - 1) ≡ Some w → pending_top place xs ≡ slice_set xs (length xs - 1) (with_pending place w)
pending_there place xs w e = ap (λ (o : Option OwnWaiting). elim o as (λ o. List OwnWaiting) [ Some v ↦ slice_set xs (length xs - 1) (with_pending place v) | None ↦ xs ]) e

pub pending_named : (n : Names) (script : List Move) (place : Option ℕ) (xs : List OwnWaiting) (owes : Option Kind) (before : Option ℕ) → slice_get xs (length xs - 1) ≡ Some (waiting.Outside owes before)
    → stack_of n script (pending_top place xs) ≡ Outside (option_map n.kind owes) (move_of script place) ∷ stack_of n script (below_top xs)
pending_named n script place xs owes before e = ap (stack_of n script) (pending_there place xs (waiting.Outside owes before) e) ∙ topped_by n script xs (waiting.Outside owes before) (waiting.Outside owes place) e

pending_sound_in : (l : Lookups) (size : ℕ) (place : Option ℕ) (w : OwnWaiting) → IsSoundWaiting l size w → IsSoundWaiting l size (with_pending place w)
pending_sound_in l size place (waiting.Method f) s = s
pending_sound_in l size place (waiting.Initialiser class above next) s = s
pending_sound_in l size place (waiting.Ending class) s = s
pending_sound_in l size place (waiting.Outside owes before) s = s

pending_paced_in : (most : ℕ) (place : Option ℕ) (w : OwnWaiting) → ArePaced most (w ∷ []) → ArePaced most (with_pending place w ∷ [])
pending_paced_in most place (waiting.Method f) s = s
pending_paced_in most place (waiting.Initialiser class above next) s = s
pending_paced_in most place (waiting.Ending class) s = s
pending_paced_in most place (waiting.Outside owes before) s = record { at = λ i f e. by i f e }
  where
    by : (i : ℕ) (f : Frame) → slice_get (waiting.Outside owes place ∷ []) i ≡ Some (waiting.Method f) → f.position ≤ most
    by zero f e = absurd (cc)
    by (suc i) f e = absurd (cc)

-- one entry of a stack whose frames are paced
paced_alone : (most k : ℕ) (xs : List OwnWaiting) (w : OwnWaiting) → slice_get xs k ≡ Some w → ArePaced most xs → ArePaced most (w ∷ [])
paced_alone most k xs w e s = record { at = λ i f g. by i f g }
  where
    by : (i : ℕ) (f : Frame) → slice_get (w ∷ []) i ≡ Some (waiting.Method f) → f.position ≤ most
    by zero f g = s.at k f (e ∙ g)
    by (suc i) f g = absurd (cc)

pub pending_sound : (l : Lookups) (size : ℕ) (place : Option ℕ) (xs : List OwnWaiting) → AreSoundWaiting l size xs → AreSoundWaiting l size (pending_top place xs)
pending_sound l size place xs s = by (slice_get xs (length xs - 1)) refl
  where
    by : (o : Option OwnWaiting) → slice_get xs (length xs - 1) ≡ o → AreSoundWaiting l size (elim o as (λ o. List OwnWaiting) [ Some w ↦ slice_set xs (length xs - 1) (with_pending place w) | None ↦ xs ])
    by None e = s
    by (Some w) e = sound_set l size (length xs - 1) xs (with_pending place w) s (pending_sound_in l size place w (s.at (length xs - 1) w e))

pub pending_paced : (most : ℕ) (place : Option ℕ) (xs : List OwnWaiting) → ArePaced most xs → ArePaced most (pending_top place xs)
pending_paced most place xs s = by (slice_get xs (length xs - 1)) refl
  where
    by : (o : Option OwnWaiting) → slice_get xs (length xs - 1) ≡ o → ArePaced most (elim o as (λ o. List OwnWaiting) [ Some w ↦ slice_set xs (length xs - 1) (with_pending place w) | None ↦ xs ])
    by None e = s
    by (Some w) e = paced_set most (length xs - 1) xs (with_pending place w) s (pending_paced_in most place w (paced_alone most (length xs - 1) xs w e s))

-- a run whose framework's frame on top waits with another move, or with none
pub running_pending : (l : Lookups) (steps : ℕ) (old new : State) (place : Option ℕ) → IsRunning l steps old → KeepsRest old new → new.stack.items ≡ pending_top place old.stack.items → IsRunning l steps new
running_pending l steps old new place r k e =
    let size = length (spots_of old.world) in
    running_of l steps new (subst (IsSound l) (sym k.world) r.world) (ap (λ v. length v.items) k.statuses ∙ r.classes)
    (subst (λ (w : World). AreSoundWaiting l (length (spots_of w)) new.stack.items) (sym k.world) (subst (AreSoundWaiting l size) (sym e) (pending_sound l size place old.stack.items (running_stack l steps old r))))
    (subst (ArePaced (2 ^ 32 + steps)) (sym e) (pending_paced (2 ^ 32 + steps) place old.stack.items (running_paced l steps old r)))
    (subst (λ (w : World). AreHeld steps w.locks.entries) (sym k.world) (running_held l steps old r))

-- ---- the frame on top

pub top_sound : (l : Lookups) (steps : ℕ) (s : State) (f : Frame) → IsRunning l steps s → top_frame s.stack.items ≡ Some f → IsSoundFrame l (length (spots_of s.world)) f
top_sound l steps s f r e = r.stack (length s.stack.items - 1) (waiting.Method f) (top_there s.stack.items f e)

pub top_paced : (l : Lookups) (steps : ℕ) (s : State) (f : Frame) → IsRunning l steps s → top_frame s.stack.items ≡ Some f → f.position ≤ 2 ^ 32 + steps
top_paced l steps s f r e = r.paced (length s.stack.items - 1) f (top_there s.stack.items f e)

-- a frame of the same code with other registers that are fine
pub sound_same_code : (l : Lookups) (size : ℕ) (f g : Frame) → IsSoundFrame l size f → IsSameCode f g → IsFineFrame (names_in l) size g → IsSoundFrame l size g
sound_same_code l size f g s code fine = record {
  fine = fine;
  own = s.own;
  class = s.class;
  found = ap (look.method_at l.program.now) code.at ∙ s.found;
  body = s.body ∙ ap (λ b. Some b.now) (sym code.body);
  name = s.name ∙ sym code.method;
  within = ap (λ (at : MethodAt). slice_get l.program.now.classes at.class) code.at ∙ s.within;
  of_class = s.of_class ∙ ap (λ (m : ℕ). (method_at l.program.now m).class) (sym code.method);
}

pub sound_goes_on : (l : Lookups) (size : ℕ) (f g : Frame) (cells : List Datum) → IsSoundFrame l size f → GoesOn f g cells → AreFine (names_in l) size cells → IsSoundFrame l size g
sound_goes_on l size f g cells s h c = sound_same_code l size f g s h.code (record {
  registers = λ r. subst (λ (ds : List Datum). IsFine (names_in l) size (cell ds r)) (sym h.registers) (c.at r);
  result = subst (IsFine (names_in l) size) (sym h.result) s.fine.result;
  caught = subst (IsFine (names_in l) size) (sym h.caught) s.fine.caught;
})

pub sound_handles : (l : Lookups) (size : ℕ) (f g : Frame) (at : ℕ) (d : Datum) → IsSoundFrame l size f → Handles f g at d → IsFine (names_in l) size d → IsSoundFrame l size g
sound_handles l size f g at d s h c = sound_same_code l size f g s h.code (record {
  registers = λ r. subst (λ (ds : List Datum). IsFine (names_in l) size (cell ds r)) (sym h.registers) (s.fine.registers r);
  result = subst (IsFine (names_in l) size) (sym h.result) s.fine.result;
  caught = subst (IsFine (names_in l) size) (sym h.caught) c;
})

-- a run whose top is another frame
pub running_topped : (l : Lookups) (steps : ℕ) (old new : State) (g : Frame) → IsRunning l steps old → KeepsRest old new → new.stack.items ≡ slice_set old.stack.items (length old.stack.items - 1) (waiting.Method g) → IsSoundFrame l (length (spots_of old.world)) g → g.position ≤ 2 ^ 32 + (steps + 1)
    → IsRunning l (steps + 1) new
running_topped l steps old new g r k e s p =
    let more = running_more l steps old r in
    let size = length (spots_of old.world) in
    let stack = sound_set l size (length old.stack.items - 1) old.stack.items (waiting.Method g) (running_stack l (steps + 1) old more) s in
    let paced = paced_set (2 ^ 32 + (steps + 1)) (length old.stack.items - 1) old.stack.items (waiting.Method g) (running_paced l (steps + 1) old more) (one_paced (2 ^ 32 + (steps + 1)) g p) in
    running_of l (steps + 1) new (subst (IsSound l) (sym k.world) r.world) (ap (λ v. length v.items) k.statuses ∙ r.classes)
    (subst (λ (w : World). AreSoundWaiting l (length (spots_of w)) new.stack.items) (sym k.world) (subst (AreSoundWaiting l size) (sym e) stack))
    (subst (ArePaced (2 ^ 32 + (steps + 1))) (sym e) paced)
    (subst (λ (w : World). AreHeld (steps + 1) w.locks.entries) (sym k.world) (running_held l (steps + 1) old more))

pub running_goes_on : (l : Lookups) (steps : ℕ) (old new : State) (f : Frame) → IsRunning l steps old → steps < 2 ^ 32 → top_frame old.stack.items ≡ Some f → ChangesTop (λ (f g : Frame). GoesOn f g f.registers.items) old.stack.items new.stack.items → KeepsRest old new → IsRunning l (steps + 1) new
running_goes_on l steps old new f r early e h k =
    let t = h.top f e in
    let low = top_paced l steps old f r e in
    let s = top_sound l steps old f r e in
    let next = t.so.position (omega (arith, low, early)) in
    running_topped l steps old new t.frame r k t.stack (sound_goes_on l (length (spots_of old.world)) f t.frame f.registers.items s t.so (fine_cells (names_in l) (length (spots_of old.world)) f s.fine)) (omega (arith, low, next))

pub running_goes_on_with : (l : Lookups) (steps : ℕ) (old new : State) (f : Frame) (item : Item) (register : ℕ) (d : Datum) → IsRunning l steps old → steps < 2 ^ 32 → top_frame old.stack.items ≡ Some f → IsFine (names_in l) (length (spots_of old.world)) d
    → ChangesTop (λ (f g : Frame). GoesOn f g (with_item item f.registers.items register d)) old.stack.items new.stack.items → KeepsRest old new → IsRunning l (steps + 1) new
running_goes_on_with l steps old new f item register d r early e c h k =
    let t = h.top f e in
    let low = top_paced l steps old f r e in
    let s = top_sound l steps old f r e in
    let next = t.so.position (omega (arith, low, early)) in
    let cells = fine_item (names_in l) (length (spots_of old.world)) item f.registers.items register d (fine_cells (names_in l) (length (spots_of old.world)) f s.fine) c in
    running_topped l steps old new t.frame r k t.stack (sound_goes_on l (length (spots_of old.world)) f t.frame (with_item item f.registers.items register d) s t.so cells) (omega (arith, low, next))

pub running_handles : (l : Lookups) (steps : ℕ) (old new : State) (f : Frame) (at : ℕ) (d : Datum) → IsRunning l steps old → top_frame old.stack.items ≡ Some f → at < 2 ^ 32 → IsFine (names_in l) (length (spots_of old.world)) d
    → ChangesTop (λ (f g : Frame). Handles f g at d) old.stack.items new.stack.items → KeepsRest old new → IsRunning l (steps + 1) new
running_handles l steps old new f at d r e low c h k =
    let t = h.top f e in
    let s = top_sound l steps old f r e in
    let next = t.so.position in
    running_topped l steps old new t.frame r k t.stack (sound_handles l (length (spots_of old.world)) f t.frame at d s t.so c) (omega (arith, low, next))
