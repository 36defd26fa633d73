-- The heap by names.
use Rattle.std.proofs.Common.{◌≡◌, ℕ, zero, suc, ◌+◌, List, [], ◌∷◌, ◌++◌, length, arith, ap, refl, sym, ◌∙◌}
use Rattle.std.specs.Prelude.{Option, Some, None, map, slice_get, slice_set}
use Rattle.std.specs.Option.{option_map}
use Rattle.dalvik_defs.specs.State.{World, Thing, Items, thing_at, put_thing, with_thing, next_object}
use Rattle.dalvik_lookups.specs.declared.types.Kind.{Kind}
use Rattle.dalvik_state.specs.declared.world.Thing.{Thing as OwnThing}
use Rattle.dalvik_defs.specs.declared.state.Value.{Value}
use Rattle.dalvik_defs.specs.declared.state.Value.TheVariants.{Object}
use Rattle.dalvik_state.specs.declared.datum.Datum.{Datum}
use Rattle.dalvik_state.specs.declared.datum.Datum.TheVariants as datum
use Rattle.dalvik_state.specs.declared.world.World.{World as OwnWorld}
use Rattle.dalvik_state.specs.Worlds.{Shape, Array, Spot, new_spot, reshape, reshape_at, shape_at, shape_of, spots_of, IsHeap}
use Rattle.dalvik_state.specs.Views.{Names, value_of, values_of, thing_of, things_from, static_in, lock_in, exposed_of, world_of}

module _ (n : Names) (fields : List ((ℕ × ℕ) × Datum)) where
  pub thing_named : (k : ℕ) (ss : List Spot) (i : ℕ) → slice_get (things_from n fields k ss) i ≡ option_map (λ (s : Spot). thing_of n fields (k + i) s.shape) (slice_get ss i)
  thing_named k [] i = refl
  thing_named k (s ∷ ss) zero = let e : k ≡ k + 0 = omega arith in ap (λ (j : ℕ). Some (thing_of n fields j s.shape)) e
  thing_named k (s ∷ ss) (suc i) = let e : suc k + i ≡ k + suc i = omega arith in thing_named (suc k) ss i ∙ ap (λ (j : ℕ). option_map (λ (s : Spot). thing_of n fields j s.shape) (slice_get ss i)) e

  pub reshaped_named : (f : Shape → Shape) (k : ℕ) (ss : List Spot) (i : ℕ) (s : Spot) (t : Thing) → slice_get ss i ≡ Some s → thing_of n fields (k + i) (f s.shape) ≡ t
      → things_from n fields k (reshape f ss i) ≡ slice_set (things_from n fields k ss) i t
  reshaped_named f k [] i s t g e = refl
  reshaped_named f k (x ∷ ss) zero s t g e =
      let same : x ≡ s = cc in
      let at : k ≡ k + 0 = omega arith in
      ap (λ (u : Thing). u ∷ things_from n fields (suc k) ss) (ap (λ (y : Spot). thing_of n fields k (f y.shape)) same ∙ ap (λ (j : ℕ). thing_of n fields j (f s.shape)) at ∙ e)
  reshaped_named f k (x ∷ ss) (suc i) s t g e =
      let at : suc k + i ≡ k + suc i = omega arith in
      ap (λ (us : List Thing). thing_of n fields k x.shape ∷ us) (reshaped_named f (suc k) ss i s t g (ap (λ (j : ℕ). thing_of n fields j (f s.shape)) at ∙ e))

  pub more_named : (k : ℕ) (ss : List Spot) (s : Spot) → things_from n fields k (ss ++ s ∷ []) ≡ things_from n fields k ss ++ thing_of n fields (k + length ss) s.shape ∷ []
  more_named k [] s = let e : k ≡ k + 0 = omega arith in ap (λ (j : ℕ). thing_of n fields j s.shape ∷ []) e
  more_named k (x ∷ ss) s =
      let e : suc k + length ss ≡ k + suc (length ss) = omega arith in
      ap (λ (us : List Thing). thing_of n fields k x.shape ∷ us) (more_named (suc k) ss s ∙ ap (λ (j : ℕ). things_from n fields (suc k) ss ++ thing_of n fields j s.shape ∷ []) e)

  pub things_long : (k : ℕ) (ss : List Spot) → length (things_from n fields k ss) ≡ length ss
  things_long k [] = refl
  things_long k (s ∷ ss) = ap suc (things_long (suc k) ss)

-- ---- worlds

pub heap_named : (n : Names) (old new : OwnWorld) (spots : List Spot) → IsHeap old new spots → world_of n new ≡ record (world_of n old) { heap = things_from n old.fields.entries 0 spots }
heap_named n old new spots h = λ i. record {
  heap = things_from n (h.fields i).entries 0 (h.heap i);
  locks = lock_in n (h.locks i).entries;
  statics = static_in n (h.statics i).items;
  exposed = map exposed_of (h.exposed i).items;
}

-- an array is added
pub added_named : (n : Names) (old new : OwnWorld) (t : OwnThing) (kind : Kind) (items : List Datum) → IsHeap old new (spots_of old ++ new_spot t ∷ []) → shape_of t ≡ Array kind items
    → world_of n new ≡ with_thing (world_of n old) (Items (n.kind kind) (values_of n items))
added_named n old new t kind items h e =
    heap_named n old new (spots_of old ++ new_spot t ∷ []) h
    ∙ ap (λ (hs : List Thing). record (world_of n old) { heap = hs })
    (more_named n old.fields.entries 0 (spots_of old) (new_spot t)
    ∙ ap (λ (s : Shape). things_from n old.fields.entries 0 (spots_of old) ++ thing_of n old.fields.entries (0 + length (spots_of old)) s ∷ []) e)

-- the number of the next thing
pub next_is : (n : Names) (w : OwnWorld) → next_object (world_of n w) ≡ Object (length (spots_of w))
next_is n w = ap Object (things_long n w.fields.entries 0 (spots_of w))

shape_is : (o : Option Spot) (x : Shape) → option_map (λ (s : Spot). s.shape) o ≡ Some x → (s : Spot) × (o ≡ Some s) × (s.shape ≡ x)
shape_is None x e = absurd (cc)
shape_is (Some s) x e = (s, refl, (let same : s.shape ≡ x = cc in same))

-- an array is changed
pub changed_named : (n : Names) (old new : OwnWorld) (f : Shape → Shape) (d : Datum) (kind : Kind) (items made : List Datum) → shape_at (spots_of old) d ≡ Some (Array kind items) → f (Array kind items) ≡ Array kind made
    → IsHeap old new (reshape_at f (spots_of old) d) → world_of n new ≡ put_thing (world_of n old) (value_of n d) (Items (n.kind kind) (values_of n made))
changed_named n old new f (datum.Object i) kind items made s e h =
    let found = shape_is (slice_get (spots_of old) i) (Array kind items) s in
    let thing : thing_of n old.fields.entries (0 + i) (f found.0.shape) ≡ Items (n.kind kind) (values_of n made) = ap (λ (x : Shape). thing_of n old.fields.entries (0 + i) (f x)) found.2 ∙ ap (thing_of n old.fields.entries (0 + i)) e in
    heap_named n old new (reshape f (spots_of old) i) h
    ∙ ap (λ (hs : List Thing). record (world_of n old) { heap = hs }) (reshaped_named n old.fields.entries f 0 (spots_of old) i found.0 (Items (n.kind kind) (values_of n made)) found.1 thing)
changed_named n old new f (datum.Word x) kind items made s e h = absurd (cc)
changed_named n old new f (datum.Low x) kind items made s e h = absurd (cc)
changed_named n old new f (datum.High x) kind items made s e h = absurd (cc)
changed_named n old new f (datum.Literal x) kind items made s e h = absurd (cc)
changed_named n old new f (datum.Class x) kind items made s e h = absurd (cc)
