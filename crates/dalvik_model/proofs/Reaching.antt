-- The instruction of the frame on top has been looked at: what lies ahead of its effect.
use Rattle.std.proofs.Common.{◌≡◌, ℕ, zero, suc, Bool, true, false, ◌+◌, ◌-◌, ◌≤◌, List, [], ◌∷◌, length, take, arith, ap, refl, sym, subst, ◌∙◌, Result, Ok, Err}
use Rattle.std.specs.Option.{option_and_then}
use Rattle.std.specs.declared.alloc.AllocError.{AllocError}
use Rattle.std.specs.declared.alloc.Global.{Global}
use Rattle.std.specs.Prelude.{◌^◌, drop, IfOk, OnErr, Vec, Some, slice_get, slice_set}
use Rattle.dalvik_defs.specs.Naming.{method_at}
use Rattle.dalvik_defs.specs.State.{On, Ended, State as NamedState}
use Rattle.dalvik_defs.specs.declared.state.Frame.{Frame as NamedFrame}
use Rattle.dalvik_defs.specs.declared.state.Waiting.TheVariants.{Method as InMethod}
use Rattle.dalvik_defs.specs.declared.script.Move.{Move}
use Rattle.dalvik_defs.specs.declared.tables.Floats.{Floats}
use Rattle.dalvik_lookups.specs.Walks.{IsKept}
use Rattle.dalvik_lookups.specs.declared.lookups.Lookups.{Lookups}
use Rattle.dalvik_lookups.specs.declared.memo.Memo.{Memo}
use Rattle.dalvik_state.specs.Frames.{IsSame, Leaves}
use Rattle.dalvik_state.specs.Runs.{IsRun, IsUndoneWith}
use Rattle.dalvik_state.specs.States.{below_top, classes_of, frame_in, IsInMethod, stack_of, state_of, top_frame, IsRunning, IsSound, IsSoundFrame, IsTopped}
use Rattle.dalvik_state.specs.Views.{frame_of, names_in, values_of, value_of, world_of, IsFine, IsFineFrame, Names}
use Rattle.dalvik_state.specs.Frames.{cell}
use Rattle.dalvik_state.specs.declared.datum.Datum.{Datum}
use Rattle.dalvik_state.specs.Worlds.{spots_of, IsSameWorld, LeavesWorld}
use Rattle.dalvik_state.specs.declared.effect.Effect.{Effect}
use Rattle.dalvik_state.specs.declared.effect.Effect.TheVariants as effect
use Rattle.dalvik_state.specs.declared.frame.Frame.{Frame}
use Rattle.dalvik_state.specs.declared.state.State.{State}
use Rattle.dalvik_state.specs.declared.state.Waiting.{Waiting as OwnWaiting}
use Rattle.dalvik_state.specs.declared.state.Waiting.TheVariants as waiting
use Rattle.dalvik_state.specs.declared.world.Exposed.{Exposed}
use Rattle.dalvik_state.specs.declared.world.World.{World}
use Rattle.dalvik_state.proofs.Running.{one_paced, paced_more, paced_set, topped_by, running_held, running_of, running_paced, running_stack, sound_same_code, sound_set, stack_more, held_more, top_paced, top_sound, AreHeld, ArePaced, AreSoundWaiting}
use Rattle.dalvik_state.proofs.Tops.{top_named, top_there}
use Rattle.dalvik_steps.specs.Turns.{IsAsItWas}
use Rattle.dalvik_steps.proofs.Undone.{sound_same, world_same}
use Rattle.dalvik_model.specs.Doing.{IsForm, IsInRun, IsReached, IsStill, IsUndoneIn, NamesNext, UnlessGoes}

-- the frame on top, in its run
pub in_run : (l : Lookups) (m : Memo) (steps : ℕ) (s : State) (f : Frame) → IsRun l m steps s → top_frame s.stack.items ≡ Some f → NamesNext l.program.now f → IsInRun l m steps s.world f
in_run l m steps s f r top next = record {
  right = r.right;
  kept = r.kept;
  sound = r.state.world;
  frame = top_sound l steps s f r.state top;
  paced = top_paced l steps s f r.state top;
  early = r.early;
  next = next;
}

-- ---- the last entry is another one

set_there : (xs : List OwnWaiting) (k : ℕ) (w v : OwnWaiting) → slice_get xs k ≡ Some w → slice_get (slice_set xs k v) k ≡ Some v
set_there [] k w v e = absurd (cc)
set_there (x ∷ xs) zero w v e = refl
set_there (x ∷ xs) (suc k) w v e = set_there xs k w v e

set_length : (xs : List OwnWaiting) (k : ℕ) (v : OwnWaiting) → length (slice_set xs k v) ≡ length xs
set_length [] k v = refl
set_length (x ∷ xs) zero v = refl
set_length (x ∷ xs) (suc k) v = ap suc (set_length xs k v)

set_below : (xs : List OwnWaiting) (k : ℕ) (v : OwnWaiting) → take k (slice_set xs k v) ≡ take k xs
set_below [] k v = refl
set_below (x ∷ xs) zero v = refl
set_below (x ∷ xs) (suc k) v = ap (λ (ys : List OwnWaiting). x ∷ ys) (set_below xs k v)

module _ (xs : List OwnWaiting) (f g : Frame) (top : top_frame xs ≡ Some f) where
  abbrev changed : List OwnWaiting
  changed = slice_set xs (length xs - 1) (waiting.Method g)

  same_length : length changed ≡ length xs
  same_length = set_length xs (length xs - 1) (waiting.Method g)

  pub top_changed : top_frame changed ≡ Some g
  top_changed = ap (λ (k : ℕ). option_and_then frame_in (slice_get changed (k - 1))) same_length ∙ ap (option_and_then frame_in) (set_there xs (length xs - 1) (waiting.Method f) (waiting.Method g) (top_there xs f top))

  pub below_changed : below_top changed ≡ below_top xs
  below_changed = ap (λ (k : ℕ). take (k - 1) changed) same_length ∙ set_below xs (length xs - 1) (waiting.Method g)

-- ---- what is kept

-- the world and the frame on top are others
pub running_acted : (l : Lookups) (steps more : ℕ) (old new : State) (f g : Frame) → IsRunning l steps old → steps ≤ more → IsSound l new.world → length (spots_of old.world) ≤ length (spots_of new.world) → new.world.locks ≡ old.world.locks → new.statuses ≡ old.statuses
    → new.stack.items ≡ slice_set old.stack.items (length old.stack.items - 1) (waiting.Method g) → IsSoundFrame l (length (spots_of new.world)) g → g.position ≤ 2 ^ 32 + more → IsRunning l more new
running_acted l steps more old new f g r later sound size locks statuses stack frame low = running_of l more new sound (ap (λ v. length v.items) statuses ∙ r.classes)
    (subst (AreSoundWaiting l (length (spots_of new.world))) (sym stack) (sound_set l (length (spots_of new.world)) (length old.stack.items - 1) old.stack.items (waiting.Method g) (stack_more l (length (spots_of old.world)) (length (spots_of new.world)) old.stack.items size (running_stack l steps old r)) frame))
    (subst (ArePaced (2 ^ 32 + more)) (sym stack) (paced_set (2 ^ 32 + more) (length old.stack.items - 1) old.stack.items (waiting.Method g) (paced_more (2 ^ 32 + steps) (2 ^ 32 + more) old.stack.items (omega (arith, later)) (running_paced l steps old r)) (one_paced (2 ^ 32 + more) g low)))
    (subst (λ m. AreHeld more m.entries) (sym locks) (held_more steps more old.world.locks.entries later (running_held l steps old r)))

-- in a world that has not changed all items are the same
as_it_was : (old new : World) → IsSameWorld old new → IsAsItWas old new
as_it_was old new h = record { heap = h.heap; fields = h.fields; statics = h.statics; locks = h.locks; exposed = ap (λ (v : Vec Exposed Global). v.items) h.exposed }

-- by names a frame that has not changed is the same
pub frame_same : (n : Names) (f g : Frame) → IsSame f g → frame_of n g ≡ frame_of n f
frame_same n f g h = λ i. record {
  method = method_at n.program (h.code.method i);
  position = h.position i;
  registers = values_of n (h.registers i);
  result = value_of n (h.result i);
  caught = value_of n (h.caught i);
}

-- what an effect is that goes on in the frame, or all others
unless : (e : Effect) (P : Type 0) → (f f' : Frame) (w w' : World) → Leaves e f f' → LeavesWorld e w w' → (IsSame f f' → IsSameWorld w w' → P) → UnlessGoes e P
unless effect.Goes P f f' w w' left world p = tt
unless (effect.Faults class) P f f' w w' left world p = p left.kept world.kept
unless (effect.Throws d) P f f' w w' left world p = p left.kept world.kept
unless (effect.Gives value) P f f' w w' left world p = p left.kept world.kept
unless (effect.Calls kind method args) P f f' w w' left world p = p left.kept world.kept
unless (effect.Makes to kind) P f f' w w' left world p = p left.kept world.kept
unless (effect.Reads item to field on) P f f' w w' left world p = p left.kept world.kept
unless (effect.Writes field on value) P f f' w w' left world p = p left.kept world.kept
unless (effect.Locks d) P f f' w w' left world p = p left.kept world.kept
unless (effect.Unlocks d) P f f' w w' left world p = p left.kept world.kept
unless effect.Stuck P f f' w w' left world p = p left.kept world.kept

pub reached : (l : Lookups) (floats : Floats) (steps : ℕ) (m m' : Memo) (old new : State) (f : Frame) (e : Effect) → IsRun l m steps old → top_frame old.stack.items ≡ Some f → IsKept l m' → IsTopped (λ (g : Frame). IsForm l floats steps old.world new.world f g e) old.stack.items new.stack.items
    → new.statuses ≡ old.statuses → new.next ≡ old.next → new.ended ≡ old.ended → IsReached l floats steps m' old new f e
reached l floats steps m m' old new f e r top kept t statuses next ended =
    let g = t.frame in
    let a = t.so in
    let n = names_in l in
    let low = top_paced l steps old f r.state top in
    record {
      frame = g;
      ahead = record {
        right = r.right;
        kept = kept;
        early = r.early;
        on = ended ∙ r.on;
        top = ap top_frame t.stack ∙ top_changed old.stack.items f g top;
        fine = a.fine;
        more = running_acted l steps (steps + 1) old new f g r.state (omega arith) a.sound a.more a.locks statuses t.stack a.frame a.paced;
        still = unless e (IsRunning l steps new) f g old.world new.world a.left a.world (λ same world.
            running_acted l steps steps old new f g r.state (omega arith) a.sound a.more a.locks statuses t.stack a.frame (let position = same.position in omega (arith, low, position)));
      };
      effect = a.effect;
      below = λ script. ap (λ (xs : List OwnWaiting). stack_of n script (below_top xs)) t.stack ∙ ap (stack_of n script) (below_changed old.stack.items f g top);
      statuses = statuses;
      next = next;
      still = unless e (IsStill l old new f g) f g old.world new.world a.left a.world (λ same world. record { world = world_same n old.world new.world (as_it_was old.world new.world world); frame = frame_same n f g same });
    }

-- ---- where memory runs out

fine_same : (n : Names) (size : ℕ) (f g : Frame) → IsSame f g → IsFineFrame n size f → IsFineFrame n size g
fine_same n size f g h c = record {
  registers = λ r. subst (λ (ds : List Datum). IsFine n size (cell ds r)) (sym h.registers) (c.registers r);
  result = subst (IsFine n size) (sym h.result) c.result;
  caught = subst (IsFine n size) (sym h.caught) c.caught;
}

-- the same states by names have the same parts
same_state : (n : Names) (script : List Move) (old new : State) (f g : Frame) → IsSameWorld old.world new.world → frame_of n g ≡ frame_of n f → top_frame old.stack.items ≡ Some f → new.stack.items ≡ slice_set old.stack.items (length old.stack.items - 1) (waiting.Method g)
    → new.statuses ≡ old.statuses → new.next ≡ old.next → new.ended ≡ old.ended → state_of n script new ≡ state_of n script old
same_state n script old new f g world frame top stack statuses next ended =
    let entries : stack_of n script new.stack.items ≡ stack_of n script old.stack.items =
    ap (stack_of n script) stack ∙ topped_by n script old.stack.items (waiting.Method f) (waiting.Method g) (top_there old.stack.items f top)
    ∙ ap (λ (x : NamedFrame). InMethod x ∷ stack_of n script (below_top old.stack.items)) frame
    ∙ sym (top_named n script old.stack.items f top) in
    ap (λ (b : Bool). elim b as (λ b. NamedState) [ true ↦ Ended | false ↦ On (world_of n new.world) (classes_of n.program new.statuses.items) (stack_of n script new.stack.items) (drop new.next script) ]) ended
    ∙ ap (λ (s : NamedState). elim old.ended as (λ b. NamedState) [ true ↦ Ended | false ↦ s ]) (λ i. On (world_same n old.world new.world (as_it_was old.world new.world world) i) (classes_of n.program (statuses i).items) (entries i) (drop (next i) script))

pub unreached : (l : Lookups) (steps : ℕ) (m m' : Memo) (old new : State) (f : Frame) → IsRun l m steps old → top_frame old.stack.items ≡ Some f → IsKept l m' → IsTopped (IsUndoneIn old.world new.world f) old.stack.items new.stack.items
    → new.statuses ≡ old.statuses → new.next ≡ old.next → new.ended ≡ old.ended → IsUndoneWith l steps m' old new
unreached l steps m m' old new f r top kept t statuses next ended =
    let g = t.frame in
    let a = t.so in
    let n = names_in l in
    let low = top_paced l steps old f r.state top in
    let position = a.frame.position in
    let size : length (spots_of new.world) ≡ length (spots_of old.world) = ap length a.world.heap in
    let own = top_sound l steps old f r.state top in
    let frame = sound_same_code l (length (spots_of old.world)) f g own a.frame.code (fine_same n (length (spots_of old.world)) f g a.frame own.fine) in
    record {
      undone = record {
        state = λ script. same_state n script old new f g a.world (frame_same n f g a.frame) top t.stack statuses next ended;
        running = running_acted l steps steps old new f g r.state (omega arith) (sound_same l old.world new.world (as_it_was old.world new.world a.world) r.state.world) (omega (arith, size)) a.world.locks statuses t.stack (subst (λ (k : ℕ). IsSoundFrame l k g) (sym size) frame) (omega (arith, low, position));
        on = ended ∙ r.on;
      };
      kept = kept;
    }

-- ---- by results

-- the last entry of a stack is a method that is so
topped_in : (is_so : Frame → Type 0) (xs : List OwnWaiting) (k : ℕ) (v : OwnWaiting) → k ≡ length xs - 1 → IsInMethod is_so v → IsTopped is_so xs (slice_set xs k v)
topped_in is_so xs k v at h = record {
  frame = h.frame;
  stack = ap (λ (i : ℕ). slice_set xs i v) at ∙ ap (slice_set xs (length xs - 1)) h.is;
  so = h.so;
}

pub topped_ok : (l : Lookups) (floats : Floats) (steps : ℕ) (w w' : World) (f : Frame) (xs : List OwnWaiting) (k : ℕ) (v : OwnWaiting) (r : Result Effect AllocError) → k ≡ length xs - 1 → IfOk r (λ (e : Effect). IsInMethod (λ (g : Frame). IsForm l floats steps w w' f g e) v)
    → IfOk r (λ (e : Effect). IsTopped (λ (g : Frame). IsForm l floats steps w w' f g e) xs (slice_set xs k v))
topped_ok l floats steps w w' f xs k v (Ok e) at h = topped_in (λ (g : Frame). IsForm l floats steps w w' f g e) xs k v at h
topped_ok l floats steps w w' f xs k v (Err x) at h = h

pub topped_err : (w w' : World) (f : Frame) (xs : List OwnWaiting) (k : ℕ) (v : OwnWaiting) (r : Result Effect AllocError) → k ≡ length xs - 1 → OnErr r (IsInMethod (IsUndoneIn w w' f) v) → OnErr r (IsTopped (IsUndoneIn w w' f) xs (slice_set xs k v))
topped_err w w' f xs k v (Ok e) at h = h
topped_err w w' f xs k v (Err x) at h = topped_in (IsUndoneIn w w' f) xs k v at h

-- the entry at the last place is the frame on top
pub last_method : (xs : List OwnWaiting) (k : ℕ) (w : OwnWaiting) (f : Frame) → k ≡ length xs - 1 → slice_get xs k ≡ Some w → top_frame xs ≡ Some f → w ≡ waiting.Method f
last_method xs k w f at is top = let same : Some w ≡ Some (waiting.Method f) = sym is ∙ ap (slice_get xs) at ∙ top_there xs f top in cc

pub reached_ok : (l : Lookups) (floats : Floats) (steps : ℕ) (m m' : Memo) (old : State) (w' : World) (stack : Vec OwnWaiting Global) (f : Frame) (r : Result Effect AllocError) → IsRun l m steps old → top_frame old.stack.items ≡ Some f → IsKept l m'
    → IfOk r (λ (e : Effect). IsTopped (λ (g : Frame). IsForm l floats steps old.world w' f g e) old.stack.items stack.items) → IfOk r (IsReached l floats steps m' old (record old { world = w'; stack = stack }) f)
reached_ok l floats steps m m' old w' stack f (Ok e) run top kept h = reached l floats steps m m' old (record old { world = w'; stack = stack }) f e run top kept h refl refl refl
reached_ok l floats steps m m' old w' stack f (Err x) run top kept h = h

pub reached_err : (l : Lookups) (steps : ℕ) (m m' : Memo) (old : State) (w' : World) (stack : Vec OwnWaiting Global) (f : Frame) (r : Result Effect AllocError) → IsRun l m steps old → top_frame old.stack.items ≡ Some f → IsKept l m'
    → OnErr r (IsTopped (IsUndoneIn old.world w' f) old.stack.items stack.items) → OnErr r (IsUndoneWith l steps m' old (record old { world = w'; stack = stack }))
reached_err l steps m m' old w' stack f (Ok e) run top kept h = h
reached_err l steps m m' old w' stack f (Err x) run top kept h = unreached l steps m m' old (record old { world = w'; stack = stack }) f run top kept h refl refl refl
