-- Steps that make an object or lock one, by their parts.
use Rattle.std.proofs.Common.{◌≡◌, ℕ, ◌+◌, ◌<◌, ◌≤◌, inl, inr, ◌⊎◌, List, [], ◌∷◌, ◌++◌, length, map, arith, ap, refl, sym, subst, ◌∙◌, length-append}
use Rattle.std.specs.Prelude.{Bool, true, false, is_some, Option, Some, None, slice_get, option_and_then}
use Rattle.std.specs.Option.{option_map}
use Rattle.insn_set.specs.declared.ops.Item.TheVariants as item
use Rattle.program_model.specs.declared.pass.Outside.{Outside}
use Rattle.program_model.specs.declared.program.Class.{Class}
use Rattle.program_model.specs.declared.program.Program.{Program}
use Rattle.dalvik_defs.specs.Effect.{next, write}
use Rattle.dalvik_defs.specs.Names.{Text}
use Rattle.dalvik_defs.specs.Naming.{type_at}
use Rattle.dalvik_defs.specs.Outcome.{makes, when_ready, with_lock, Need, Outcome, Stays}
use Rattle.dalvik_defs.specs.Show.{show}
use Rattle.dalvik_defs.specs.State.{World as NamedWorld, fresh, kind_of, next_object, with_thing}
use Rattle.dalvik_defs.specs.declared.events.Event.{Event}
use Rattle.dalvik_defs.specs.declared.events.Event.TheVariants as event
use Rattle.dalvik_defs.specs.declared.events.Shown.{Shown}
use Rattle.dalvik_defs.specs.declared.script.Move.{Move}
use Rattle.dalvik_defs.specs.declared.state.Frame.{Frame as NamedFrame}
use Rattle.dalvik_defs.specs.declared.state.Value.{Value}
use Rattle.dalvik_defs.specs.declared.tables.Floats.{Floats}
use Rattle.dalvik_lookups.specs.Facing.{run_face}
use Rattle.dalvik_lookups.specs.Tables.{place_named, IsRight}
use Rattle.dalvik_lookups.specs.Views.{type_text}
use Rattle.dalvik_lookups.specs.declared.lookups.Lookups.{Lookups}
use Rattle.dalvik_lookups.specs.declared.types.Kind.{Kind}
use Rattle.dalvik_lookups.proofs.Calls.{class_there}
use Rattle.dalvik_lookups.proofs.Facing.{right_face}
use Rattle.dalvik_lookups.proofs.Interned.{got_short, text_sound}
use Rattle.dalvik_state.specs.declared.datum.Datum.{Datum}
use Rattle.dalvik_state.specs.declared.datum.Datum.TheVariants as datum
use Rattle.dalvik_state.specs.declared.frame.Frame.{Frame}
use Rattle.dalvik_state.specs.declared.state.State.{State}
use Rattle.dalvik_state.specs.declared.world.Thing.TheVariants as thing
use Rattle.dalvik_state.specs.declared.world.World.{World}
use Rattle.dalvik_state.specs.Drafts.{IsShown}
use Rattle.dalvik_state.specs.Frames.{with_item, GoesOn}
use Rattle.dalvik_state.specs.Runs.{comes_of, world_in, IsEvent}
use Rattle.dalvik_state.specs.States.{class_text, ChangesTop, HasRoom, IsFineKind, IsRunning, IsSound, KeepsRest}
use Rattle.dalvik_state.specs.Views.{frame_of, names_in, value_of, world_of, IsFine}
use Rattle.dalvik_state.specs.Worlds.{new_spot, spots_of, IsHeap}
use Rattle.dalvik_state.proofs.Things.{next_is}
use Rattle.dalvik_steps.specs.Reaching.{HasCount, IsLockShown, IsMade, IsMadeIn, IsStep, SameItems, Turns}
use Rattle.dalvik_steps.proofs.Leaving.{goes_on_left, goes_with_left}
use Rattle.dalvik_steps.proofs.Reserved.{items_named}
use Rattle.dalvik_steps.proofs.Made.{instance_named, instance_sound}

one_longer : (old w : World) (kind : Kind) → IsHeap old w (spots_of old ++ new_spot (thing.Instance kind) ∷ []) → length (spots_of w) ≡ length (spots_of old) + 1
one_longer old w kind h = ap length h.heap ∙ length-append (spots_of old) (new_spot (thing.Instance kind) ∷ [])

turns_made : (l : Lookups) (steps : ℕ) (old : State) → IsRunning l steps old → (w : World) (kind : Kind) → IsHeap old.world w (spots_of old.world ++ new_spot (thing.Instance kind) ∷ []) → IsFineKind l kind
    → Turns l steps old (record old { world = w }) (with_thing (world_in l old) (fresh (type_text l.types kind)))
turns_made l steps old r w kind h fine = record {
  named = instance_named (names_in l) old.world w kind h r.world.written;
  sound = instance_sound l old.world w kind h fine r.world;
  more = (let size = one_longer old.world w kind h in omega (arith, size));
  held = λ i e g. (let most = r.held i e (ap (λ m. slice_get m.entries i) (sym h.locks) ∙ g) in omega (arith, most));
  stack = refl;
  statuses = refl;
  next = refl;
  ended = refl;
}

-- the reference to an object is fine where it is there
object_fine : (l : Lookups) (size x : ℕ) (d : Datum) → d ≡ datum.Object x → x < size → IsFine (names_in l) size d
object_fine l size x d e low = subst (IsFine (names_in l) size) (sym e) low

module _ (l : Lookups) (o : Outside) (floats : Floats) (script : List Move) (steps : ℕ) (f : Frame) (old : State) (h : IsStep l steps old f) where
  -- the reference by names
  next_named : (d : Datum) → d ≡ datum.Object (length (spots_of old.world)) → value_of (names_in l) d ≡ next_object (world_in l old)
  next_named d e = ap (value_of (names_in l)) e ∙ sym (next_is (names_in l) old.world)

  pub made_goes : (mid new : State) (w : World) (kind : Kind) (to : ℕ) (d : Datum) → IsHeap old.world w (spots_of old.world ++ new_spot (thing.Instance kind) ∷ []) → IsFineKind l kind → d ≡ datum.Object (length (spots_of old.world)) → mid ≡ record old { world = w }
      → ChangesTop (λ (f g : Frame). GoesOn f g (with_item item.Object f.registers.items to d)) mid.stack.items new.stack.items → KeepsRest mid new
      → IsEvent l steps script new None (comes_of l o floats script old f (Stays (with_thing (world_in l old) (fresh (type_text l.types kind))) (next (write (frame_of (names_in l) f) to (next_object (world_in l old)))) None))
  made_goes mid new w kind to d heap fine e is changes rest =
      let size = one_longer old.world w kind heap in
      let turned = subst (λ (m : State). Turns l steps old m (with_thing (world_in l old) (fresh (type_text l.types kind)))) (sym is) (turns_made l steps old h.state w kind heap fine) in
      let there : IsFine (names_in l) (length (spots_of w)) d = object_fine l (length (spots_of w)) (length (spots_of old.world)) d e (omega (arith, size)) in
      subst (λ (v : Value). IsEvent l steps script new None (comes_of l o floats script old f (Stays (with_thing (world_in l old) (fresh (type_text l.types kind))) (next (write (frame_of (names_in l) f) to v)) None))) (next_named d e) (record {
        left = goes_with_left l steps script old mid new (with_thing (world_in l old) (fresh (type_text l.types kind))) h.state h.early h.on turned f h.top item.Object to d (subst (λ (m : State). IsFine (names_in l) (length (spots_of m.world)) d) (sym is) there) changes rest;
        shown = refl;
      })

  -- an object was made and shown, and the frame goes on
  pub shown_goes : (mid new : State) (kind : Kind) (to : ℕ) (d : Datum) (e : Event) → IsMade l old mid kind d e
      → ChangesTop (λ (f g : Frame). GoesOn f g (with_item item.Object f.registers.items to d)) mid.stack.items new.stack.items → KeepsRest mid new
      → IsEvent l steps script new (Some e) (comes_of l o floats script old f (Stays (show (with_thing (world_in l old) (fresh (type_text l.types kind))) (type_text l.types kind) (next_object (world_in l old))).0 (next (write (frame_of (names_in l) f) to (next_object (world_in l old))))
      (Some (event.Make (show (with_thing (world_in l old) (fresh (type_text l.types kind))) (type_text l.types kind) (next_object (world_in l old))).1))))
  shown_goes mid new kind to d e made changes rest =
      let c = type_text l.types kind in
      let size = made.made.size in
      let turned : Turns l steps old mid (show (with_thing (world_in l old) (fresh c)) c (next_object (world_in l old))).0 = record {
        named = ap (λ (x : NamedWorld × Shown). x.0) (sym made.made.shown);
        sound = made.made.sound;
        more = omega (arith, size);
        held = λ i x g. (let most = h.state.held i x (ap (λ es. slice_get es i) (sym made.made.locks) ∙ g) in omega (arith, most));
        stack = made.stack;
        statuses = made.statuses;
        next = made.next;
        ended = made.ended;
      } in
      let there : IsFine (names_in l) (length (spots_of mid.world)) d = object_fine l (length (spots_of mid.world)) (length (spots_of old.world)) d made.made.reference (omega (arith, size)) in
      subst (λ (v : Value). IsEvent l steps script new (Some e) (comes_of l o floats script old f (Stays (show (with_thing (world_in l old) (fresh c)) c (next_object (world_in l old))).0 (next (write (frame_of (names_in l) f) to v)) (Some (event.Make (show (with_thing (world_in l old) (fresh c)) c (next_object (world_in l old))).1))))) (next_named d made.made.reference) (record {
        left = goes_with_left l steps script old mid new (show (with_thing (world_in l old) (fresh c)) c (next_object (world_in l old))).0 h.state h.early h.on turned f h.top item.Object to d there changes rest;
        shown = ap (λ (x : Event). Some x) (made.is ∙ ap (λ (x : NamedWorld × Shown). event.Make x.1) (sym made.made.shown));
      })

  -- a value was locked and shown, and the frame goes on
  pub locked_goes : (mid new : State) (d : Datum) (count : ℕ) (s : Shown) (e : Event) → IsLockShown l old.world mid.world d count s → count ≤ steps + 1 → mid.stack.items ≡ old.stack.items → mid.statuses ≡ old.statuses → mid.next ≡ old.next → mid.ended ≡ old.ended
      → ChangesTop (λ (f g : Frame). GoesOn f g f.registers.items) mid.stack.items new.stack.items → KeepsRest mid new
      → IsEvent l steps script new (Some e) (comes_of l o floats script old f (Stays (with_lock (show (world_in l old) (kind_of (world_in l old) (value_of (names_in l) d)) (value_of (names_in l) d)).0 (value_of (names_in l) d) count) (next (frame_of (names_in l) f)) (Some e)))
  locked_goes mid new d count s e locked most stack statuses at ended changes rest =
      let v = value_of (names_in l) d in
      let named = with_lock (show (world_in l old) (kind_of (world_in l old) v) v).0 v count in
      let size = locked.size in
      let turned : Turns l steps old mid named = record {
        named = locked.named;
        sound = locked.sound;
        more = omega (arith, size);
        held = λ i x g. elim (locked.counts i x g) [
          | inl same ↦ omega (arith, same, most)
          | inr was ↦ (let low = h.state.held was.0 (was.1.0, x.1) was.1.1 in omega (arith, low))
        ];
        stack = stack;
        statuses = statuses;
        next = at;
        ended = ended;
      } in
      record { left = goes_on_left l steps script old mid new named h.state h.early h.on turned f h.top changes rest; shown = refl }

-- made after room was taken
pub made_from : (l : Lookups) (old mid new : World) (kind : Kind) (d : Datum) (s : Shown) → SameItems old mid → IsMadeIn l mid new kind d s → IsMadeIn l old new kind d s
made_from l old mid new kind d s same made = record {
  reference = made.reference ∙ ap (λ ss. datum.Object (length ss)) same.heap;
  shown = ap (λ (u : NamedWorld). show (with_thing u (fresh (type_text l.types kind))) (type_text l.types kind) (next_object u)) (sym (items_named (names_in l) old mid same)) ∙ made.shown;
  sound = made.sound;
  size = made.size ∙ ap (λ ss. length ss + 1) same.heap;
  locks = made.locks ∙ same.locks;
}

-- ---- whether the program defines the class

abbrev made_by : (Text → Need) → ℕ → Text → NamedWorld → NamedFrame → Bool → Outcome
made_by need to c w f b = elim b as (λ b. Outcome) [
  | true ↦ when_ready (need c) w c (Stays (with_thing w (fresh c)) (next (write f to (next_object w))) None)
  | false ↦ Stays (show (with_thing w (fresh c)) c (next_object w)).0 (next (write f to (next_object w))) (Some (event.Make (show (with_thing w (fresh c)) c (next_object w)).1))
]

abbrev flags_by : Program → Option ℕ → Option ℕ
flags_by p o = option_map (λ (k : Class). k.flags.0) (option_and_then (slice_get p.classes) o)

pub makes_some : (l : Lookups) → IsRight l → (need : Text → Need) (to class : ℕ) (c : Text) (w : NamedWorld) (f : NamedFrame) → place_named l.program.now c ≡ Some class → makes (run_face l) need to c w f ≡ made_by need to c w f true
makes_some l r need to class c w f e =
    let k = class_there l.program.now c class e in
    ap (λ (o : Option ℕ). made_by need to c w f (is_some o)) ((right_face l r).flags c ∙ ap (flags_by l.program.now) e ∙ ap (option_map (λ (k : Class). k.flags.0)) k.is)

pub makes_none : (l : Lookups) → IsRight l → (need : Text → Need) (to : ℕ) (c : Text) (w : NamedWorld) (f : NamedFrame) → place_named l.program.now c ≡ None → makes (run_face l) need to c w f ≡ made_by need to c w f false
makes_none l r need to c w f e = ap (λ (o : Option ℕ). made_by need to c w f (is_some o)) ((right_face l r).flags c ∙ ap (flags_by l.program.now) e)

pub named_class_text : (l : Lookups) (class : ℕ) (c : Text) → place_named l.program.now c ≡ Some class → class_text l.program.now class ≡ c
named_class_text l class c e =
    let k = class_there l.program.now c class e in
    ap (λ o. elim o as (λ o. Text) [ Some d ↦ type_at l.program.now d.name | None ↦ [] ]) k.is ∙ text_sound (type_at l.program.now k.entry.name) c k.passes

pub named_class_low : (l : Lookups) (class : ℕ) (c : Text) → place_named l.program.now c ≡ Some class → class < length l.program.now.classes
named_class_low l class c e = (let k = class_there l.program.now c class e in got_short l.program.now.classes class k.entry k.is)

-- locked after room was taken
pub lock_from : (l : Lookups) (old mid new : World) (d : Datum) (count : ℕ) (s : Shown) → SameItems old mid → IsLockShown l mid new d count s → IsLockShown l old new d count s
lock_from l old mid new d count s same locked =
    let w = items_named (names_in l) old mid same in
    let v = value_of (names_in l) d in
    record {
      shown = locked.shown ∙ ap (λ (u : NamedWorld). (show u (kind_of u v) v).1) w;
      named = locked.named ∙ ap (λ (u : NamedWorld). with_lock (show u (kind_of u v) v).0 v count) w;
      sound = locked.sound;
      size = locked.size ∙ ap length same.heap;
      counts = λ i e g. elim (locked.counts i e g) [ inl x ↦ inl x | inr x ↦ inr (x.0, (x.1.0, ap (λ es. slice_get es x.0) (sym same.locks) ∙ x.1.1)) ];
    }
