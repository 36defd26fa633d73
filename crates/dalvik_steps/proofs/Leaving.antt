-- Steps by their parts: the world changes, the frame on top goes on, the framework is asked, and the run ends.
use Rattle.std.proofs.Common.{◌≡◌, ℕ, zero, suc, ◌+◌, ◌-◌, ◌<◌, ◌≤◌, ◌^◌, Bool, true, false, true≢false, List, [], ◌∷◌, ◌++◌, length, map, drop, arith, ap, refl, sym, subst, ◌∙◌}
use Rattle.std.specs.Prelude.{Option, Some, None, slice_get, slice_set}
use Rattle.insn_set.specs.declared.ops.Item.{Item}
use Rattle.program_model.specs.Lookups as look
use Rattle.dalvik_defs.specs.Effect.{next, write_item}
use Rattle.dalvik_defs.specs.Naming.{method_at}
use Rattle.dalvik_defs.specs.State.{Classes, World as NamedWorld, State as NamedState, On, Ended}
use Rattle.dalvik_defs.specs.declared.script.Move.{Move}
use Rattle.dalvik_defs.specs.declared.state.Frame.{Frame as NamedFrame}
use Rattle.dalvik_defs.specs.declared.state.Waiting.{Waiting}
use Rattle.dalvik_defs.specs.declared.state.Waiting.TheVariants.{Method as InMethod, Outside}
use Rattle.dalvik_lookups.specs.Views.{type_text}
use Rattle.dalvik_lookups.specs.declared.lookups.Lookups.{Lookups}
use Rattle.dalvik_lookups.specs.declared.types.Kind.{Kind}
use Rattle.dalvik_state.specs.declared.datum.Datum.{Datum}
use Rattle.dalvik_state.specs.declared.frame.Frame.{Frame}
use Rattle.dalvik_state.specs.declared.state.State.{State}
use Rattle.dalvik_state.specs.declared.state.Waiting.{Waiting as OwnWaiting}
use Rattle.dalvik_state.specs.declared.state.Waiting.TheVariants as waiting
use Rattle.dalvik_state.specs.declared.world.World.{World}
use Rattle.dalvik_state.specs.Frames.{cell, with_item, GoesOn}
use Rattle.dalvik_state.specs.Runs.{below_in, classes_in, script_in, stack_in, world_in, IsLeft, IsUndone}
use Rattle.dalvik_state.specs.States.{below_top, classes_of, stack_of, state_of, top_frame, waiting_of, ChangesTop, IsFineKind, IsRunning, IsSound, IsSoundFrame, IsSoundWaiting, IsTopped, KeepsRest}
use Rattle.dalvik_state.specs.Views.{frame_of, names_in, value_of, world_of, AreFine, IsFine, IsFineFrame}
use Rattle.dalvik_state.specs.Worlds.{spots_of}
use Rattle.dalvik_state.proofs.Fine.{fine_cells, fine_frame, fine_item}
use Rattle.dalvik_state.proofs.Named.{item_is, with_cells}
use Rattle.dalvik_state.proofs.Running.{AreHeld, ArePaced, AreSoundWaiting, paced_more, paced_pushed, paced_set, pushed_named, running_of, running_paced, running_stack, sound_pushed, sound_set, stack_more}
use Rattle.dalvik_state.proofs.Tops.{goes_on_named, top_named, top_there, topped_named}
use Rattle.dalvik_steps.specs.Reaching.{Turns, IsAsked}

-- ---- the state by names

pub state_on : (l : Lookups) (script : List Move) (old new : State) (w : NamedWorld) (stack : List Waiting) → new.ended ≡ false → world_in l new ≡ w → new.statuses ≡ old.statuses → stack_in l script new ≡ stack → new.next ≡ old.next
    → state_of (names_in l) script new ≡ On w (classes_in l old) stack (script_in script old)
state_on l script old new w stack on world statuses stacked next =
    ap (λ (b : Bool). elim b as (λ b. NamedState) [ true ↦ Ended | false ↦ On (world_of (names_in l) new.world) (classes_of l.program.now new.statuses.items) (stack_of (names_in l) script new.stack.items) (drop new.next script) ]) on
    ∙ (λ i. On (world i) (classes_of l.program.now (statuses i).items) (stacked i) (drop (next i) script))

-- ---- the frame on top goes on

pub goes_sound : (l : Lookups) (size : ℕ) (f g : Frame) (cells : List Datum) → IsSoundFrame l size f → AreFine (names_in l) size cells → GoesOn f g cells → IsSoundFrame l size g
goes_sound l size f g cells s c h = record {
  fine = record {
    registers = λ r. subst (λ (ds : List Datum). IsFine (names_in l) size (cell ds r)) (sym h.registers) (c.at r);
    result = subst (IsFine (names_in l) size) (sym h.result) s.fine.result;
    caught = subst (IsFine (names_in l) size) (sym h.caught) s.fine.caught;
  };
  own = s.own;
  class = s.class;
  found = ap (look.method_at l.program.now) h.code.at ∙ s.found;
  body = s.body ∙ ap (λ b. Some b.now) (sym h.code.body);
  name = s.name ∙ sym h.code.method;
  within = ap (λ a. slice_get l.program.now.classes a.class) h.code.at ∙ s.within;
  of_class = s.of_class ∙ ap (λ m. (method_at l.program.now m).class) (sym h.code.method);
}

-- the frame on top as a run keeps it
pub top_sound : (l : Lookups) (steps : ℕ) (s : State) (f : Frame) → IsRunning l steps s → top_frame s.stack.items ≡ Some f → IsSoundFrame l (length (spots_of s.world)) f
top_sound l steps s f r e = r.stack (length s.stack.items - 1) (waiting.Method f) (top_there s.stack.items f e)

pub top_paced : (l : Lookups) (steps : ℕ) (s : State) (f : Frame) → IsRunning l steps s → top_frame s.stack.items ≡ Some f → f.position ≤ 2 ^ 32 + steps
top_paced l steps s f r e = r.paced (length s.stack.items - 1) f (top_there s.stack.items f e)

module _ (l : Lookups) (steps : ℕ) (script : List Move) (old mid new : State) (w : NamedWorld) (r : IsRunning l steps old) (early : steps < 2 ^ 32) (on : old.ended ≡ false) (t : Turns l steps old mid w) where
  -- the entries of the stack in the new world
  entries : AreSoundWaiting l (length (spots_of mid.world)) mid.stack.items
  entries = subst (AreSoundWaiting l (length (spots_of mid.world))) (sym t.stack) (stack_more l (length (spots_of old.world)) (length (spots_of mid.world)) old.stack.items t.more (running_stack l steps old r))

  paces : ArePaced (2 ^ 32 + (steps + 1)) mid.stack.items
  paces = subst (ArePaced (2 ^ 32 + (steps + 1))) (sym t.stack) (paced_more (2 ^ 32 + steps) (2 ^ 32 + (steps + 1)) old.stack.items (omega arith) (running_paced l steps old r))

  -- a run with another stack
  on_stack : KeepsRest mid new → AreSoundWaiting l (length (spots_of mid.world)) new.stack.items → ArePaced (2 ^ 32 + (steps + 1)) new.stack.items → IsRunning l (steps + 1) new
  on_stack k stack paced = running_of l (steps + 1) new
      (subst (IsSound l) (sym k.world) t.sound)
      (ap (λ v. length v.items) (k.statuses ∙ t.statuses) ∙ r.classes)
      (subst (λ (v : World). AreSoundWaiting l (length (spots_of v)) new.stack.items) (sym k.world) stack)
      paced
      (subst (λ (v : World). AreHeld (steps + 1) v.locks.entries) (sym k.world) (record { at = t.held }))

  left_with : KeepsRest mid new → (stack : List Waiting) → stack_in l script new ≡ stack → IsRunning l (steps + 1) new → IsLeft l steps script new (On w (classes_in l old) stack (script_in script old))
  left_with k stack e run = record {
    state = state_on l script old new w stack (k.ended ∙ t.ended ∙ on) (ap (world_of (names_in l)) k.world ∙ t.named) (k.statuses ∙ t.statuses) e (k.next ∙ t.next);
    running = λ g. run;
  }

  module _ (f : Frame) (top : top_frame old.stack.items ≡ Some f) where
    goes_left : (cells : Frame → List Datum) (b : NamedFrame) → AreFine (names_in l) (length (spots_of mid.world)) (cells f) → next (with_cells (names_in l) f (cells f)) ≡ b
        → ChangesTop (λ (f g : Frame). GoesOn f g (cells f)) mid.stack.items new.stack.items → KeepsRest mid new
        → IsLeft l steps script new (On w (classes_in l old) (InMethod b ∷ below_in l script old) (script_in script old))
    goes_left cells b fine same changes k =
        let n = names_in l in
        let on_top : top_frame mid.stack.items ≡ Some f = ap top_frame t.stack ∙ top in
        let h : IsTopped (λ (g : Frame). GoesOn f g (cells f)) mid.stack.items new.stack.items = changes.top f on_top in
        let so : GoesOn f h.frame (cells f) = h.so in
        let pace = top_paced l steps old f r top in
        let low : f.position < 2 ^ 63 = omega (arith, pace, early) in
        let moved : h.frame.position ≡ f.position + 1 = so.position low in
        let sound = goes_sound l (length (spots_of mid.world)) f h.frame (cells f) (entries.at (length mid.stack.items - 1) (waiting.Method f) (top_there mid.stack.items f on_top)) fine so in
        left_with k (InMethod b ∷ below_in l script old)
        (topped_named n script (λ (g : Frame). GoesOn f g (cells f)) mid.stack.items new.stack.items f on_top h
        ∙ (λ i. InMethod ((goes_on_named n f h.frame (cells f) low so ∙ same) i) ∷ stack_of n script (below_top (t.stack i))))
        (on_stack k
        (subst (AreSoundWaiting l (length (spots_of mid.world))) (sym h.stack) (sound_set l (length (spots_of mid.world)) (length mid.stack.items - 1) mid.stack.items (waiting.Method h.frame) entries sound))
        (subst (ArePaced (2 ^ 32 + (steps + 1))) (sym h.stack) (paced_set (2 ^ 32 + (steps + 1)) (length mid.stack.items - 1) mid.stack.items (waiting.Method h.frame) paces (record { at = one h.frame (omega (arith, moved, pace)) }))))
      where
        one : (g : Frame) → g.position ≤ 2 ^ 32 + (steps + 1) → (i : ℕ) (x : Frame) → slice_get (waiting.Method g ∷ []) i ≡ Some (waiting.Method x) → x.position ≤ 2 ^ 32 + (steps + 1)
        one g h zero x e = (let same : g ≡ x = cc in subst (λ (y : Frame). y.position ≤ 2 ^ 32 + (steps + 1)) same h)
        one g h (suc i) x e = absurd (cc)

    pub goes_on_left : ChangesTop (λ (f g : Frame). GoesOn f g f.registers.items) mid.stack.items new.stack.items → KeepsRest mid new
        → IsLeft l steps script new (On w (classes_in l old) (InMethod (next (frame_of (names_in l) f)) ∷ below_in l script old) (script_in script old))
    goes_on_left changes k =
        let fine = fine_cells (names_in l) (length (spots_of mid.world)) f (fine_frame (names_in l) (length (spots_of old.world)) (length (spots_of mid.world)) f t.more (top_sound l steps old f r top).fine) in
        goes_left (λ (g : Frame). g.registers.items) (next (frame_of (names_in l) f)) fine refl changes k

    pub goes_with_left : (item : Item) (register : ℕ) (d : Datum) → IsFine (names_in l) (length (spots_of mid.world)) d
        → ChangesTop (λ (f g : Frame). GoesOn f g (with_item item f.registers.items register d)) mid.stack.items new.stack.items → KeepsRest mid new
        → IsLeft l steps script new (On w (classes_in l old) (InMethod (next (write_item item (frame_of (names_in l) f) register (value_of (names_in l) d))) ∷ below_in l script old) (script_in script old))
    goes_with_left item register d fine changes k =
        let cells = fine_cells (names_in l) (length (spots_of mid.world)) f (fine_frame (names_in l) (length (spots_of old.world)) (length (spots_of mid.world)) f t.more (top_sound l steps old f r top).fine) in
        goes_left (λ (g : Frame). with_item item g.registers.items register d) (next (write_item item (frame_of (names_in l) f) register (value_of (names_in l) d)))
        (fine_item (names_in l) (length (spots_of mid.world)) item f.registers.items register d cells fine) (ap next (item_is (names_in l) f item register d)) changes k

    -- the framework is asked for a value of a type
    pub asked_left : (kind : Kind) → IsFineKind l kind → IsAsked mid new kind
        → IsLeft l steps script new (On w (classes_in l old) (Outside (Some (type_text l.types kind)) None ∷ InMethod (frame_of (names_in l) f) ∷ below_in l script old) (script_in script old))
    asked_left kind fine a =
        let n = names_in l in
        left_with a.rest (Outside (Some (type_text l.types kind)) None ∷ InMethod (frame_of n f) ∷ below_in l script old)
        (ap (stack_of n script) a.stack ∙ pushed_named n script mid.stack.items (waiting.Outside (Some kind) None) ∙ ap (λ (ws : List Waiting). Outside (Some (type_text l.types kind)) None ∷ ws) (ap (stack_of n script) t.stack ∙ top_named n script old.stack.items f top))
        (on_stack a.rest
        (subst (AreSoundWaiting l (length (spots_of mid.world))) (sym a.stack) (sound_pushed l (length (spots_of mid.world)) mid.stack.items (waiting.Outside (Some kind) None) entries fine))
        (subst (ArePaced (2 ^ 32 + (steps + 1))) (sym a.stack) (paced_pushed (2 ^ 32 + (steps + 1)) mid.stack.items (waiting.Outside (Some kind) None) paces (record { at = none }))))
      where
        none : (i : ℕ) (x : Frame) → slice_get (waiting.Outside (Some kind) None ∷ []) i ≡ Some (waiting.Method x) → x.position ≤ 2 ^ 32 + (steps + 1)
        none zero x e = absurd (cc)
        none (suc i) x e = absurd (cc)

-- ---- the run ends

pub ended_left : (l : Lookups) (steps : ℕ) (script : List Move) (s : State) → IsLeft l steps script (record s { ended = true }) Ended
ended_left l steps script s = record { state = refl; running = λ e. absurd (true≢false e) }
