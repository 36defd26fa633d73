-- The state in which a run begins, and how far classes are.
use Rattle.std.proofs.Common.{◌≡◌, ℕ, zero, suc, ◌<◌, Bool, true, false, true≢false, List, [], ◌∷◌, length, replicate, map, arith, ap, refl, sym, subst, ◌∙◌}
use Rattle.std.specs.Prelude.{Option, Some, None, drop, slice_get, slice_set, slice_index_or}
use Rattle.std.specs.Option.{option_map, option_and_then}
use Rattle.std.proofs.lemmas.List.{get_or-replicate, get_or-set_same, get_or-set_other, length-replicate}
use Rattle.program_model.specs.declared.program.Program.{Program}
use Rattle.program_model.specs.declared.program.Class.{Class}
use Rattle.dalvik_lookups.specs.declared.lookups.Lookups.{Lookups}
use Rattle.dalvik_lookups.specs.Slots.{slots_after}
use Rattle.dalvik_lookups.specs.Tables.{place_named}
use Rattle.dalvik_lookups.proofs.Calls.{class_there}
use Rattle.dalvik_lookups.proofs.Interned.{text_same, text_sound, got_short}
use Rattle.dalvik_defs.specs.Names.{Text, text_eq}
use Rattle.dalvik_defs.specs.Naming.{type_at}
use Rattle.dalvik_defs.specs.declared.names.FieldKey.{FieldKey}
use Rattle.dalvik_defs.specs.declared.script.Move.{Move}
use Rattle.dalvik_defs.specs.State.{Status, New, State, On, Ended, opening, opening_world, put_status}
use Rattle.dalvik_state.specs.declared.datum.Datum.{Datum}
use Rattle.dalvik_state.specs.declared.frame.Frame.{Frame}
use Rattle.dalvik_state.specs.declared.state.Status.{Status as OwnStatus}
use Rattle.dalvik_state.specs.declared.state.Status.TheVariants as status
use Rattle.dalvik_state.specs.declared.state.Waiting.{Waiting}
use Rattle.dalvik_state.specs.declared.state.Waiting.TheVariants as waiting
use Rattle.dalvik_state.specs.declared.state.State.{State as OwnState}
use Rattle.dalvik_state.specs.declared.world.World.{World}
use Rattle.dalvik_state.specs.Worlds.{spots_of}
use Rattle.dalvik_state.specs.States.{class_text, classes_of, stack_of, state_of, status_at, status_of, IsOpening, IsRunning, IsSoundWaiting}
use Rattle.dalvik_state.specs.Views.{IsFine, Names, exposed_of, lock_in, names_in, place_of_field, static_in, things_from, value_of, world_of}

-- ---- nothing is written yet

nothing_at : (n : Names) (size i : ℕ) → option_and_then (option_map (value_of n)) (slice_get (replicate size None) i) ≡ None
nothing_at n zero i = refl
nothing_at n (suc size) zero = refl
nothing_at n (suc size) (suc i) = nothing_at n size i

nothing_of : (n : Names) (size : ℕ) (o : Option ℕ) → option_and_then (λ (place : ℕ). option_and_then (option_map (value_of n)) (slice_get (replicate size None) place)) o ≡ None
nothing_of n size None = refl
nothing_of n size (Some place) = nothing_at n size place

none_static : (n : Names) (size : ℕ) → static_in n (replicate size None) ≡ (λ (k : FieldKey). None)
none_static n size = λ i k. nothing_of n size (place_of_field n.program k) i

-- ---- all classes are new

new_at : (p : Program) (t : Text) (o : Option ℕ) → place_named p t ≡ o → elim o as (λ o. Status) [ Some c ↦ status_of (status_at (replicate (length p.classes) status.New) c) | None ↦ New ] ≡ New
new_at p t None e = refl
new_at p t (Some c) e =
    let r = class_there p t c e in
    ap status_of (get_or-replicate (length p.classes) c status.New status.Done (got_short p.classes c r.entry r.is))

all_new : (p : Program) → classes_of p (replicate (length p.classes) status.New) ≡ (λ (t : Text). New)
all_new p = λ i t. new_at p t (place_named p t) refl i

-- ---- a class's status is set

set_at : (p : Program) (statuses : List OwnStatus) (c : ℕ) (s : OwnStatus) → place_named p (class_text p c) ≡ Some c → c < length statuses → (t : Text) (b : Bool) → text_eq t (class_text p c) ≡ b
    → classes_of p (slice_set statuses c s) t ≡ elim b as (λ b. Status) [ true ↦ status_of s | false ↦ classes_of p statuses t ]
set_at p statuses c s own low t true e =
    let there : place_named p t ≡ Some c = ap (place_named p) (text_sound t (class_text p c) e) ∙ own in
    ap (λ (o : Option ℕ). elim o as (λ o. Status) [ Some d ↦ status_of (status_at (slice_set statuses c s) d) | None ↦ New ]) there
    ∙ ap status_of (get_or-set_same statuses c s status.Done low)
set_at p statuses c s own low t false e = by (place_named p t) refl
  where
    other : (d : ℕ) → place_named p t ≡ Some d → d ≡ c → ⊥
    other d f same =
        let r = class_there p t d f in
        let text : class_text p d ≡ type_at p r.entry.name = ap (λ (o : Option Class). elim o as (λ o. Text) [ Some k ↦ type_at p k.name | None ↦ [] ]) r.is in
        let is : type_at p r.entry.name ≡ t = text_sound (type_at p r.entry.name) t r.passes in
        let equal : t ≡ class_text p c = sym (text ∙ is) ∙ ap (class_text p) same in
        absurd (true≢false (sym (text_same (class_text p c)) ∙ ap (λ (u : Text). text_eq u (class_text p c)) (sym equal) ∙ e))

    by : (o : Option ℕ) → place_named p t ≡ o → elim o as (λ o. Status) [ Some d ↦ status_of (status_at (slice_set statuses c s) d) | None ↦ New ] ≡ elim o as (λ o. Status) [ Some d ↦ status_of (status_at statuses d) | None ↦ New ]
    by None f = refl
    by (Some d) f = ap status_of (get_or-set_other statuses c d s status.Done (other d f))

pub status_named : (p : Program) (statuses : List OwnStatus) (c : ℕ) (s : OwnStatus) → place_named p (class_text p c) ≡ Some c → c < length statuses
    → classes_of p (slice_set statuses c s) ≡ put_status (class_text p c) (status_of s) (classes_of p statuses)
status_named p statuses c s own low = λ i t. set_at p statuses c s own low t (text_eq t (class_text p c)) refl i

-- ---- the first state

pub opening_named : (l : Lookups) (s : OwnState) (script : List Move) → IsOpening l s → state_of (names_in l) script s ≡ opening script
opening_named l s script h =
    ap (λ (b : Bool). elim b as (λ b. State) [ true ↦ Ended | false ↦ On (world_of (names_in l) s.world) (classes_of l.program.now s.statuses.items) (stack_of (names_in l) script s.stack.items) (drop s.next script) ]) h.ended
    ∙ (λ i. On (world i) ((ap (classes_of l.program.now) h.statuses ∙ all_new l.program.now) i) (stack_of (names_in l) script (h.stack i)) (drop (h.next i) script))
  where
    world : world_of (names_in l) s.world ≡ opening_world
    world = λ i. record {
      heap = things_from (names_in l) (h.fields i) 0 (h.heap i);
      locks = lock_in (names_in l) (h.locks i);
      statics = (ap (static_in (names_in l)) h.statics ∙ none_static (names_in l) (slots_after 0 l.program.now.classes)) i;
      exposed = map exposed_of (h.exposed i);
    }

-- ---- what a run keeps

nothing_in : {X : Type 0} (xs : List X) (i : ℕ) (x : X) → xs ≡ [] → slice_get xs i ≡ Some x → ⊥
nothing_in {X = X} xs i x e g = absurd (let none : None ≡ Some x = sym (ap (λ (ys : List X). slice_get ys i) e) ∙ g in cc)

none_there : (size i : ℕ) (d : Datum) → slice_get (replicate size None) i ≡ Some (Some d) → ⊥
none_there zero i d e = absurd (cc)
none_there (suc size) zero d e = absurd (cc)
none_there (suc size) (suc i) d e = none_there size i d e

first_fine : (l : Lookups) (size i : ℕ) (x : Waiting) → slice_get (waiting.Outside None None ∷ []) i ≡ Some x → IsSoundWaiting l size x
first_fine l size zero x e = let same : waiting.Outside None None ≡ x = cc in subst (IsSoundWaiting l size) same tt
first_fine l size (suc i) x e = absurd (cc)

no_frame_first : (i : ℕ) (f : Frame) → slice_get (waiting.Outside None None ∷ []) i ≡ Some (waiting.Method f) → ⊥
no_frame_first zero f e = absurd (cc)
no_frame_first (suc i) f e = absurd (cc)

pub opening_runs : (l : Lookups) (s : OwnState) → IsOpening l s → IsRunning l 0 s
opening_runs l s h = record {
  world = record {
    fine = record {
      arrays = record { at = λ i x e. absurd (nothing_in (spots_of s.world) i x h.heap e) };
      fields = λ i e g. absurd (nothing_in s.world.fields.entries i e h.fields g);
      statics = λ i d e. absurd (none_there (slots_after 0 l.program.now.classes) i d (ap (λ ds. slice_get ds i) (sym h.statics) ∙ e));
      locks = record { at = λ i e g. absurd (nothing_in s.world.locks.entries i e h.locks g) };
    };
    kinds = record { at = λ i x e. absurd (nothing_in (spots_of s.world) i x h.heap e) };
    placed = record {
      below = λ i e g. absurd (nothing_in s.world.exposed.items i e h.exposed g);
      at = λ i x e. absurd (nothing_in (spots_of s.world) i x h.heap e);
    };
    written = record { at = λ i e g. absurd (nothing_in s.world.fields.entries i e h.fields g) };
    short = record { at = λ i x e. absurd (nothing_in (spots_of s.world) i x h.heap e) };
    statics = ap length h.statics ∙ length-replicate (slots_after 0 l.program.now.classes) None;
  };
  classes = ap length h.statuses ∙ length-replicate (length l.program.now.classes) status.New;
  stack = λ i x e. first_fine l (length (spots_of s.world)) i x (ap (λ ws. slice_get ws i) (sym h.stack) ∙ e);
  paced = λ i f e. absurd (no_frame_first i f (ap (λ ws. slice_get ws i) (sym h.stack) ∙ e));
  held = λ i e g. absurd (nothing_in s.world.locks.entries i e h.locks g);
}
