-- Nothing has changed but the order of the fields, and what there is room for.
use Rattle.std.proofs.Common.{◌≡◌, ℕ, zero, suc, ◌<◌, true, false, List, [], ◌∷◌, ◌++◌, length, map, ap, refl, sym, subst, ◌∙◌}
use Rattle.std.specs.Prelude.{Option, Some, None, slice_get}
use Rattle.std.specs.HashMap.{spare}
use Rattle.std.specs.List.{AllByRecursion}
use Rattle.std.specs.List.Sorted.{IsPermutation}
use Rattle.std.specs.Map.{lookup}
use Rattle.std.specs.Option.{option_and_then, option_map}
use Rattle.std.proofs.lemmas.List.Elements.{All-from_recursion, recursion_from_All}
use Rattle.std.proofs.lemmas.List.Sorted.{All-permutation}
use Rattle.program_model.specs.declared.pass.Outside.{Outside}
use Rattle.dalvik_defs.specs.State.{Instance, On, Ended, World, State as NamedState}
use Rattle.dalvik_defs.specs.declared.names.FieldKey.{FieldKey}
use Rattle.dalvik_defs.specs.declared.state.Value.{Value}
use Rattle.dalvik_defs.specs.declared.script.Move.{Move}
use Rattle.dalvik_lookups.specs.declared.lookups.Lookups.{Lookups}
use Rattle.dalvik_lookups.specs.declared.memo.Memo.{Memo}
use Rattle.dalvik_lookups.specs.declared.types.Kind.{Kind}
use Rattle.dalvik_state.specs.declared.datum.Datum.{Datum}
use Rattle.dalvik_state.specs.declared.gifts.Gifts.{Gifts}
use Rattle.dalvik_state.specs.declared.state.State.{State}
use Rattle.dalvik_state.specs.declared.world.Exposed.{Exposed}
use Rattle.dalvik_state.specs.declared.world.World.{World as OwnWorld}
use Rattle.dalvik_state.specs.Drafts.{give_all, given_things, given_world}
use Rattle.dalvik_state.specs.Giving.{IsGiven, IsGivenFine}
use Rattle.dalvik_state.specs.Runs.{classes_in, script_in, stack_in, IsUndone}
use Rattle.dalvik_state.specs.States.{AreKinds, ArePlaced, IsRunning, IsSound, IsSoundWaiting}
use Rattle.dalvik_state.specs.Views.{AreFineLocks, AreFineSpots, IsFine, Names, exposed_of, field_in, is_at, lock_in, names_in, place_of_field, static_in, thing_of, things_from, value_of, world_of}
use Rattle.dalvik_state.specs.Worlds.{Shape, Plain, Array, Spot, new_spot, spots_of, IsShort}
use Rattle.dalvik_steps.specs.Reaching.{HasFieldRoom, IsShuffled}
use Rattle.dalvik_steps.specs.Turns.{IsAsItWas}
use Rattle.dalvik_moves.specs.Moving.{IsMoving}

-- ---- what holds of each entry holds of each in another order

module _ {X : Type 0} (P : X → Type 0) where
  each_of : (xs : List X) → ((i : ℕ) (x : X) → slice_get xs i ≡ Some x → P x) → AllByRecursion P xs
  each_of [] h = tt
  each_of (x ∷ xs) h = (h 0 x refl, each_of xs (λ i y e. h (suc i) y e))

  each_at : (xs : List X) → AllByRecursion P xs → (i : ℕ) (x : X) → slice_get xs i ≡ Some x → P x
  each_at [] h i x e = absurd (cc)
  each_at (y ∷ ys) h zero x e = (let same : y ≡ x = cc in subst P same h.0)
  each_at (y ∷ ys) h (suc i) x e = each_at ys h.1 i x e

  reordered : (xs ys : List X) → IsPermutation xs ys → ((i : ℕ) (x : X) → slice_get xs i ≡ Some x → P x) → (i : ℕ) (x : X) → slice_get ys i ≡ Some x → P x
  reordered xs ys p h = each_at ys (recursion_from_All P ys (All-permutation P xs ys p (All-from_recursion P xs (each_of xs h))))

-- ---- by names

module _ (n : Names) (old new : List ((ℕ × ℕ) × Datum)) (same : (number slot : ℕ) → lookup (is_at number slot) new ≡ lookup (is_at number slot) old) where
  field_same : (i : ℕ) → field_in n new i ≡ field_in n old i
  field_same i = λ j k. by (place_of_field n.program k) j
    where
      by : (o : Option ℕ) → option_and_then (λ (place : ℕ). option_map (value_of n) (lookup (is_at i place) new)) o ≡ option_and_then (λ (place : ℕ). option_map (value_of n) (lookup (is_at i place) old)) o
      by None = refl
      by (Some place) = ap (option_map (value_of n)) (same i place)

  thing_same : (i : ℕ) (s : Shape) → thing_of n new i s ≡ thing_of n old i s
  thing_same i (Plain kind) = ap (λ (f : FieldKey → Option Value). Instance (n.kind kind) f) (field_same i)
  thing_same i (Array kind items) = refl

  things_same : (i : ℕ) (ss : List Spot) → things_from n new i ss ≡ things_from n old i ss
  things_same i [] = refl
  things_same i (s ∷ ss) = λ j. thing_same i s.shape j ∷ things_same (suc i) ss j

pub world_shuffled : (n : Names) (old new : OwnWorld) → IsShuffled old new → world_of n new ≡ world_of n old
world_shuffled n old new h = λ i. record {
  heap = (ap (λ (ss : List Spot). things_from n new.fields.entries 0 ss) h.heap ∙ things_same n old.fields.entries new.fields.entries h.fields 0 (spots_of old)) i;
  locks = lock_in n (h.locks i).entries;
  statics = static_in n (h.statics i);
  exposed = map exposed_of (h.exposed i);
}

-- ---- what a run keeps

pub sound_shuffled : (l : Lookups) (old new : OwnWorld) → IsShuffled old new → IsSound l old → IsSound l new
sound_shuffled l old new h w =
    let n = names_in l in
    let size = length (spots_of old) in
    record {
      fine = record {
        arrays = subst (λ (ss : List Spot). AreFineSpots n (length ss) ss) (sym h.heap) w.fine.arrays;
        fields = λ i e f. subst (λ (ss : List Spot). IsFine n (length ss) e.1) (sym h.heap) (reordered (λ (x : (ℕ × ℕ) × Datum). IsFine n size x.1) old.fields.entries new.fields.entries h.entries w.fine.fields i e f);
        statics = λ i d f. subst (λ (ss : List Spot). IsFine n (length ss) d) (sym h.heap) (w.fine.statics i d (ap (λ (v : List (Option Datum)). slice_get v i) (sym h.statics) ∙ f));
        locks = subst (λ (ss : List Spot). AreFineLocks n (length ss) new.locks.entries) (sym h.heap) (subst (λ m. AreFineLocks n size m.entries) (sym h.locks) w.fine.locks);
      };
      kinds = subst (AreKinds l) (sym h.heap) w.kinds;
      placed = subst (λ (ss : List Spot). ArePlaced ss new.exposed.items) (sym h.heap) (subst (λ (es : List Exposed). ArePlaced (spots_of old) es) (sym h.exposed) w.placed);
      written = record { at = λ i e f. subst (λ (ss : List Spot). e.0.0 < length ss) (sym h.heap) (reordered (λ (x : (ℕ × ℕ) × Datum). x.0.0 < size) old.fields.entries new.fields.entries h.entries w.written.at i e f) };
      short = subst IsShort (sym h.heap) w.short;
      statics = ap length h.statics ∙ w.statics;
    }

-- room for objects is made behind it
pub shuffled_then : (old mid new : OwnWorld) → IsShuffled old mid → IsAsItWas mid new → IsShuffled old new
shuffled_then old mid new h e = record {
  entries = subst (λ m. IsPermutation old.fields.entries m.entries) (sym e.fields) h.entries;
  fields = λ number slot. ap (λ m. lookup (is_at number slot) m.entries) e.fields ∙ h.fields number slot;
  heap = e.heap ∙ h.heap;
  statics = ap (λ v. v.items) e.statics ∙ h.statics;
  locks = e.locks ∙ h.locks;
  exposed = e.exposed ∙ h.exposed;
}

pub field_room_same : (old new : OwnWorld) → new.fields ≡ old.fields → HasFieldRoom old → HasFieldRoom new
field_room_same old new e h = record { room = subst (λ m. 0 < spare m) (sym e) h.room }

module _ (l : Lookups) (w v : OwnWorld) (h : IsShuffled w v) (g : Gifts) where
  pub given_shuffled : IsGiven l w g → IsGiven l v g
  given_shuffled i = record {
    sound = sound_shuffled l w v h i.sound;
    kinds = subst (λ (ss : List Spot). AreKinds l (ss ++ map new_spot g.things.items)) (sym h.heap) i.kinds;
    short = subst (λ (ss : List Spot). IsShort (ss ++ map new_spot g.things.items)) (sym h.heap) i.short;
    fine = i.fine;
  }

  pub fine_shuffled : (d : Datum) → IsGivenFine l w g d → IsGivenFine l v g d
  fine_shuffled d f = subst (λ (ss : List Spot). IsFine (names_in l) (length (ss ++ map new_spot g.things.items)) d) (sym h.heap) f

  pub with_shuffled : given_world (names_in l) v g ≡ given_world (names_in l) w g
  with_shuffled = ap (λ (u : World). give_all u (given_things (names_in l) g.things.items)) (world_shuffled (names_in l) w v h)

-- ---- a run

module _ (l : Lookups) (steps : ℕ) (s : State) (w : OwnWorld) (h : IsShuffled s.world w) where
  pub running_shuffled : IsRunning l steps s → IsRunning l steps (record s { world = w })
  running_shuffled r = record {
    world = sound_shuffled l s.world w h r.world;
    classes = r.classes;
    stack = λ i x e. subst (λ (ss : List Spot). IsSoundWaiting l (length ss) x) (sym h.heap) (r.stack i x e);
    paced = r.paced;
    held = λ i e f. r.held i e (ap (λ m. slice_get m.entries i) (sym h.locks) ∙ f);
  }

  pub undone_shuffled : IsRunning l steps s → s.ended ≡ false → IsUndone l steps s (record s { world = w })
  undone_shuffled r on = record {
    state = λ script. ap (λ (u : World). elim s.ended as (λ b. NamedState) [ true ↦ Ended | false ↦ On u (classes_in l s) (stack_in l script s) (script_in script s) ]) (world_shuffled (names_in l) s.world w h);
    running = running_shuffled r;
    on = on;
  }

  pub moving_shuffled : (o : Outside) (m : Memo) (script : List Move) (owes : Option Kind) (first : Move) (rest : List Move) → IsMoving l o m script steps s owes first rest → IsMoving l o m script steps (record s { world = w }) owes first rest
  moving_shuffled o m script owes first rest b = record {
    run = record { right = b.run.right; kept = b.run.kept; state = running_shuffled b.run.state; early = b.run.early; on = b.run.on };
    reach = b.reach;
    place = b.place;
    top = b.top;
    waits = b.waits;
    left = b.left;
  }
