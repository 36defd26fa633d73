-- Worlds in which fields were written.
use Rattle.std.proofs.Common.{◌≡◌, ℕ, zero, suc, ◌+◌, ◌<◌, ◌≤◌, inl, inr, Bool, true, false, List, [], ◌∷◌, length, map, nat_eq, arith, ap, refl, sym, subst, ◌∙◌}
use Rattle.std.specs.Prelude.{◌&&◌, Option, Some, None, cond, slice_get, slice_set}
use Rattle.std.specs.HashMap.{HashMap, PutsEntry, Updates}
use Rattle.std.specs.List.{All, AllByRecursion}
use Rattle.std.specs.List.Sorted.{IsPermutation}
use Rattle.std.specs.Map.{lookup, set_value}
use Rattle.std.specs.Option.{option_map}
use Rattle.std.proofs.lemmas.List.{length-set}
use Rattle.std.proofs.lemmas.List.Elements.{All-from_recursion, recursion_from_All}
use Rattle.std.proofs.lemmas.List.Sorted.{All-permutation}
use Rattle.dalvik_defs.specs.Face.{Place}
use Rattle.dalvik_defs.specs.Fields.{key_at, with_instance, with_static}
use Rattle.dalvik_defs.specs.State.{Instance, Items, Thing, World as NamedWorld, put_field, put_thing, thing_at}
use Rattle.dalvik_defs.specs.declared.names.FieldKey.{FieldKey}
use Rattle.dalvik_defs.specs.declared.state.Value.{Value}
use Rattle.dalvik_defs.specs.declared.state.Value.TheVariants.{Object}
use Rattle.dalvik_lookups.specs.Slots.{slot_of}
use Rattle.dalvik_lookups.specs.Tables.{IsRight}
use Rattle.dalvik_lookups.specs.declared.lookups.Lookups.{Lookups}
use Rattle.dalvik_lookups.specs.declared.types.Kind.{Kind}
use Rattle.dalvik_lookups.proofs.Calls.{set_entry}
use Rattle.dalvik_lookups.proofs.Interned.{got_short}
use Rattle.dalvik_state.specs.declared.datum.Datum.{Datum}
use Rattle.dalvik_state.specs.declared.datum.Datum.TheVariants as datum
use Rattle.dalvik_state.specs.declared.world.World.{World}
use Rattle.dalvik_state.specs.States.{AreKinds, ArePlaced, IsSound}
use Rattle.dalvik_state.specs.Views.{AreFineLocks, AreFineSpots, IsFine, Names, exposed_of, field_in, is_at, lock_in, names_in, static_in, thing_of, things_from, value_of, world_of}
use Rattle.dalvik_state.specs.Worlds.{Plain, Array, IsShort, Shape, Spot, shape_at, spot_of, spots_of}
use Rattle.dalvik_state.proofs.Things.{thing_named}
use Rattle.dalvik_steps.specs.Reaching.{IsFieldOf, IsPut, Rewrites}
use Rattle.dalvik_steps.proofs.FieldPlaces.{PutsAt, field_placed, statics_put, things_put}
use Rattle.dalvik_steps.proofs.Slots.{slot_inside}

-- ---- entries of a map

module _ {X : Type 0} (P : X → Type 0) where
  each_of : (xs : List X) → ((i : ℕ) (x : X) → slice_get xs i ≡ Some x → P x) → AllByRecursion P xs
  each_of [] h = tt
  each_of (x ∷ xs) h = (h 0 x refl, each_of xs (λ i y e. h (suc i) y e))

  each_at : (xs : List X) → AllByRecursion P xs → (i : ℕ) (x : X) → slice_get xs i ≡ Some x → P x
  each_at [] h i x e = absurd (cc)
  each_at (y ∷ ys) h zero x e = (let same : y ≡ x = cc in subst P same h.0)
  each_at (y ∷ ys) h (suc i) x e = each_at ys h.1 i x e

  reordered : (xs ys : List X) → IsPermutation xs ys → ((i : ℕ) (x : X) → slice_get xs i ≡ Some x → P x) → (i : ℕ) (x : X) → slice_get ys i ≡ Some x → P x
  reordered xs ys p h = each_at ys (recursion_from_All P ys (All-permutation P xs ys p (All-from_recursion P xs (each_of xs h))))

module _ {K X : Type 0} (P : K × X → Type 0) (test : K → Bool) (v : X) (changed : (e : K × X) → P e → P (e.0, v)) where
  set_each : (es : List (K × X)) → ((i : ℕ) (e : K × X) → slice_get es i ≡ Some e → P e) → (i : ℕ) (e : K × X) → slice_get (set_value test es v) i ≡ Some e → P e
  set_each [] h i e f = absurd (cc)
  set_each (x ∷ xs) h i e f = by (set_each xs (λ j y g. h (suc j) y g)) (test x.0) i f
    where
      by : ((j : ℕ) (y : K × X) → slice_get (set_value test xs v) j ≡ Some y → P y) → (b : Bool) (i : ℕ) → slice_get (cond b ((x.0, v) ∷ xs) (x ∷ set_value test xs v)) i ≡ Some e → P e
      by more true zero g = (let same : (x.0, v) ≡ e = cc in subst P same (changed x (h 0 x refl)))
      by more true (suc j) g = h (suc j) e g
      by more false zero g = (let same : x ≡ e = cc in subst P same (h 0 x refl))
      by more false (suc j) g = more j e g

-- what holds of each entry holds of each after a value was put at a key
pub puts_each : {K X S : Type 0} (eq : K → K → Bool) (P : K × X → Type 0) (m n : HashMap K X S) (k : K) (v : X) (o : Option X) → PutsEntry eq m n k v o → ((e : K × X) → P e → P (e.0, v)) → P (k, v)
    → ((i : ℕ) (e : K × X) → slice_get m.entries i ≡ Some e → P e) → (i : ℕ) (e : K × X) → slice_get n.entries i ≡ Some e → P e
puts_each {K = K} {X = X} eq P m n k v None p changed new h = reordered P ((k, v) ∷ m.entries) n.entries p all
  where
    all : (i : ℕ) (e : K × X) → slice_get ((k, v) ∷ m.entries) i ≡ Some e → P e
    all zero e f = (let same : (k, v) ≡ e = cc in subst P same new)
    all (suc i) e f = h i e f
puts_each {K = K} {X = X} eq P m n k v (Some w) p changed new h = λ i e f. set_each P (eq k) v changed m.entries h i e (ap (λ (es : List (K × X)). slice_get es i) (sym p) ∙ f)

-- ---- what a run keeps

module _ (l : Lookups) (old new : World) (heap : new.heap ≡ old.heap) (locks : new.locks ≡ old.locks) (exposed : new.exposed ≡ old.exposed) where
  same_spots : spots_of new ≡ spots_of old
  same_spots = ap (λ h. map spot_of h.items) heap

  pub sound_written : IsSound l old
      → ((i : ℕ) (e : (ℕ × ℕ) × Datum) → slice_get new.fields.entries i ≡ Some e → IsFine (names_in l) (length (spots_of old)) e.1)
      → ((i : ℕ) (e : (ℕ × ℕ) × Datum) → slice_get new.fields.entries i ≡ Some e → e.0.0 < length (spots_of old))
      → ((i : ℕ) (d : Datum) → slice_get new.statics.items i ≡ Some (Some d) → IsFine (names_in l) (length (spots_of old)) d)
      → length new.statics.items ≡ length old.statics.items → IsSound l new
  sound_written w f g s long = record {
    fine = record {
      arrays = subst (λ (ss : List Spot). AreFineSpots (names_in l) (length ss) ss) (sym same_spots) w.fine.arrays;
      fields = λ i e h. subst (λ (ss : List Spot). IsFine (names_in l) (length ss) e.1) (sym same_spots) (f i e h);
      statics = λ i d h. subst (λ (ss : List Spot). IsFine (names_in l) (length ss) d) (sym same_spots) (s i d h);
      locks = subst (λ (ss : List Spot). AreFineLocks (names_in l) (length ss) new.locks.entries) (sym same_spots) (subst (λ m. AreFineLocks (names_in l) (length (spots_of old)) m.entries) (sym locks) w.fine.locks);
    };
    kinds = subst (λ (ss : List Spot). AreKinds l ss) (sym same_spots) w.kinds;
    placed = subst (λ (ss : List Spot). ArePlaced ss new.exposed.items) (sym same_spots) (subst (λ v. ArePlaced (spots_of old) v.items) (sym exposed) w.placed);
    written = record { at = λ i e h. subst (λ (ss : List Spot). e.0.0 < length ss) (sym same_spots) (g i e h) };
    short = subst IsShort (sym same_spots) w.short;
    statics = long ∙ w.statics;
  }

-- ---- static fields

pub static_written : (l : Lookups) → IsRight l → (old new : World) (k : FieldKey) (at : Place) (class index : ℕ) (d : Datum) → IsSound l old → IsFieldOf l k at class index → IsFine (names_in l) (length (spots_of old)) d
    → new.statics.items ≡ slice_set old.statics.items (slot_of l.program.now class index) (Some d) → new.heap ≡ old.heap → new.fields ≡ old.fields → new.locks ≡ old.locks → new.exposed ≡ old.exposed
    → Rewrites l old new (with_static (world_of (names_in l) old) (key_at k at) (value_of (names_in l) d))
static_written l r old new k at class index d w h fine statics heap fields locks exposed =
    let n = names_in l in
    let slot = slot_of l.program.now class index in
    let placed = field_placed l r k at class index h in
    let inside = slot_inside l.program.now r.well (key_at k at) slot placed in
    let long = w.statics in
    let low : slot < length old.statics.items = omega (arith, inside, long) in
    record {
      named = λ i. record {
        heap = things_from n (fields i).entries 0 (map spot_of (heap i).items);
        locks = lock_in n (locks i).entries;
        statics = (ap (static_in n) statics ∙ statics_put n old.statics.items (key_at k at) slot d placed low) i;
        exposed = map exposed_of (exposed i).items;
      };
      sound = sound_written l old new heap locks exposed w
          (λ i e g. w.fine.fields i e (ap (λ m. slice_get m.entries i) (sym fields) ∙ g))
          (λ i e g. w.written.at i e (ap (λ m. slice_get m.entries i) (sym fields) ∙ g))
          (λ i c g. elim (set_entry old.statics.items slot i (Some d) (Some c) (ap (λ (v : List (Option Datum)). slice_get v i) (sym statics) ∙ g)) [
            | inl was ↦ w.fine.statics i c was
            | inr new ↦ (let same : c ≡ d = cc in subst (IsFine (names_in l) (length (spots_of old))) (sym same) fine)
          ])
          (ap length statics ∙ length-set old.statics.items slot (Some d));
      heap = heap;
      locks = locks;
      exposed = exposed;
    }

-- ---- fields of objects

-- an object that has fields, by its number
pub record IsObjectAt (spots : List Spot) (on : Datum) (number : ℕ) : Type 0 where
  pub kind : Kind
  pub is : on ≡ datum.Object number
  pub shape : shape_at spots on ≡ Some (Plain kind)

pub shape_is : (o : Option Spot) (x : Shape) → option_map (λ (s : Spot). s.shape) o ≡ Some x → (s : Spot) × (o ≡ Some s) × (s.shape ≡ x)
shape_is None x e = absurd (cc)
shape_is (Some s) x e = (s, refl, (let same : s.shape ≡ x = cc in same))

pub instance_written : (l : Lookups) → IsRight l → (old new : World) (k : FieldKey) (at : Place) (class index : ℕ) (on d : Datum) (number : ℕ) (o : Option Datum) → IsSound l old → IsFieldOf l k at class index → IsFine (names_in l) (length (spots_of old)) d
    → IsObjectAt (spots_of old) on number
    → ((m s : ℕ) → lookup (is_at m s) new.fields.entries ≡ cond (nat_eq number m && nat_eq (slot_of l.program.now class index) s) (Some d) (lookup (is_at m s) old.fields.entries))
    → PutsEntry (λ x y. nat_eq x.0 y.0 && nat_eq x.1 y.1) old.fields new.fields (number, slot_of l.program.now class index) d o
    → new.heap ≡ old.heap → new.statics ≡ old.statics → new.locks ≡ old.locks → new.exposed ≡ old.exposed
    → IsPut l old new true (with_instance (world_of (names_in l) old) (key_at k at) (value_of (names_in l) on) (value_of (names_in l) d) (thing_at (world_of (names_in l) old) (value_of (names_in l) on)))
instance_written l r old new k at class index on d number o w h fine there puts entry heap statics locks exposed =
    let n = names_in l in
    let slot = slot_of l.program.now class index in
    let placed = field_placed l r k at class index h in
    let found = shape_is (slice_get (spots_of old) number) (Plain there.kind) (ap (shape_at (spots_of old)) (sym there.is) ∙ there.shape) in
    let low = got_short (spots_of old) number found.0 found.1 in
    let none_more : 0 + number ≡ number = omega arith in
    let before : thing_at (world_of n old) (value_of n on) ≡ Some (Instance (n.kind there.kind) (field_in n old.fields.entries number)) =
    ap (λ (x : Datum). thing_at (world_of n old) (value_of n x)) there.is
    ∙ thing_named n old.fields.entries 0 (spots_of old) number
    ∙ ap (option_map (λ (s : Spot). thing_of n old.fields.entries (0 + number) s.shape)) found.1
    ∙ ap (λ (x : Shape). Some (thing_of n old.fields.entries (0 + number) x)) found.2
    ∙ ap (λ (j : ℕ). Some (Instance (n.kind there.kind) (field_in n old.fields.entries j))) none_more in
    let changed = with_instance (world_of n old) (key_at k at) (value_of n on) (value_of n d) in
    let after : changed (thing_at (world_of n old) (value_of n on)) ≡ Some (put_thing (world_of n old) (Object number) (Instance (n.kind there.kind) (put_field (key_at k at) (value_of n d) (field_in n old.fields.entries number)))) =
    ap changed before ∙ ap (λ (x : Datum). Some (put_thing (world_of n old) (value_of n x) (Instance (n.kind there.kind) (put_field (key_at k at) (value_of n d) (field_in n old.fields.entries number))))) there.is in
    subst (IsPut l old new true) (sym after) (record {
      named = λ i. record {
        heap = (ap (λ h. things_from n new.fields.entries 0 (map spot_of h.items)) heap
            ∙ things_put n old.fields.entries new.fields.entries number slot d (record { at = puts }) (key_at k at) there.kind placed 0 (spots_of old) number found.0 found.1 found.2 none_more) i;
        locks = lock_in n (locks i).entries;
        statics = static_in n (statics i).items;
        exposed = map exposed_of (exposed i).items;
      };
      sound = sound_written l old new heap locks exposed w
          (puts_each (λ x y. nat_eq x.0 y.0 && nat_eq x.1 y.1) (λ (e : (ℕ × ℕ) × Datum). IsFine n (length (spots_of old)) e.1) old.fields new.fields (number, slot) d o entry (λ e f. fine) fine w.fine.fields)
          (puts_each (λ x y. nat_eq x.0 y.0 && nat_eq x.1 y.1) (λ (e : (ℕ × ℕ) × Datum). e.0.0 < length (spots_of old)) old.fields new.fields (number, slot) d o entry (λ e f. f) low w.written.at)
          (λ i c g. w.fine.statics i c (ap (λ v. slice_get v.items i) (sym statics) ∙ g))
          (ap (λ v. length v.items) statics);
      heap = heap;
      locks = locks;
      exposed = exposed;
    })
