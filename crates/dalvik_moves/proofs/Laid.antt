-- Objects are given while the fields are laid aside: by names it is as if they had not been.
use Rattle.std.proofs.Common.{◌≡◌, ℕ, suc, ◌+◌, ◌<◌, ◌≤◌, Bool, false, List, [], ◌∷◌, ◌++◌, length, map, nat_eq, arith, ap, refl, sym, ◌∙◌, length-append}
use Rattle.std.specs.Prelude.{◌&&◌, Option, Some, None, cond, slice_get}
use Rattle.std.specs.Map.{lookup}
use Rattle.std.specs.Option.{option_and_then, option_map}
use Rattle.dalvik_defs.specs.Show.{with_given}
use Rattle.dalvik_defs.specs.State.{Instance, Items, Thing, World}
use Rattle.dalvik_defs.specs.declared.names.FieldKey.{FieldKey}
use Rattle.dalvik_defs.specs.declared.state.Value.{Value}
use Rattle.dalvik_lookups.specs.declared.lookups.Lookups.{Lookups}
use Rattle.dalvik_state.specs.declared.datum.Datum.{Datum}
use Rattle.dalvik_state.specs.declared.gifts.Gifts.{Gifts}
use Rattle.dalvik_state.specs.declared.world.Thing.{Thing as OwnThing}
use Rattle.dalvik_state.specs.declared.world.World.{World as OwnWorld}
use Rattle.dalvik_state.specs.Drafts.{give_all, given_shape, given_things, given_world}
use Rattle.dalvik_state.specs.Giving.{AreGiven, IsGiven}
use Rattle.dalvik_state.specs.States.{AreWritten}
use Rattle.dalvik_state.specs.Views.{Names, field_in, is_at, names_in, place_of_field, thing_of, things_from, value_of, world_of}
use Rattle.dalvik_state.specs.Worlds.{Shape, Plain, Array, Spot, new_spot, shape_of, spots_of}
use Rattle.dalvik_state.proofs.Fine.{fine_more}
use Rattle.dalvik_state.proofs.Gifted.{give_heap}
use Rattle.dalvik_state.proofs.Places.{unlike}
use Rattle.dalvik_state.proofs.Things.{things_long}

-- ---- things with other fields

module _ (n : Names) (fields : List ((ℕ × ℕ) × Datum)) where
  -- the thing with a number, with these fields
  abbrev refill : ℕ → Thing → Thing
  refill i (Instance c held) = Instance c (field_in n fields i)
  refill i (Items kind vs) = Items kind vs

  abbrev refill_from : ℕ → List Thing → List Thing
  refill_from i [] = []
  refill_from i (t ∷ ts) = refill i t ∷ refill_from (suc i) ts

  one_refilled : (other : List ((ℕ × ℕ) × Datum)) (i : ℕ) (s : Shape) → thing_of n fields i s ≡ refill i (thing_of n other i s)
  one_refilled other i (Plain kind) = refl
  one_refilled other i (Array kind items) = refl

  refilled : (other : List ((ℕ × ℕ) × Datum)) (i : ℕ) (ss : List Spot) → things_from n fields i ss ≡ refill_from i (things_from n other i ss)
  refilled other i [] = refl
  refilled other i (s ∷ ss) = λ j. one_refilled other i s.shape j ∷ refilled other (suc i) ss j

  refill_more : (i : ℕ) (ts us : List Thing) → refill_from i (ts ++ us) ≡ refill_from i ts ++ refill_from (i + length ts) us
  refill_more i [] us = let e : i ≡ i + 0 = omega arith in ap (λ (k : ℕ). refill_from k us) e
  refill_more i (t ∷ ts) us =
      let e : suc i + length ts ≡ i + suc (length ts) = omega arith in
      ap (λ (xs : List Thing). refill i t ∷ xs) (refill_more (suc i) ts us ∙ ap (λ (k : ℕ). refill_from (suc i) ts ++ refill_from k us) e)

  -- ---- nothing is written to a new object yet

  nowhere : (size i place : ℕ) → size ≤ i → (es : List ((ℕ × ℕ) × Datum)) → ((j : ℕ) (e : (ℕ × ℕ) × Datum) → slice_get es j ≡ Some e → e.0.0 < size) → lookup (is_at i place) es ≡ None
  nowhere size i place high [] h = refl
  nowhere size i place high (e ∷ es) h =
      let low = h 0 e refl in
      ap (λ (b : Bool). cond (b && nat_eq place e.0.1) (Some e.1) (lookup (is_at i place) es)) (unlike i e.0.0 (λ same. absurd (omega (arith, low, high, same))))
      ∙ nowhere size i place high es (λ j x f. h (suc j) x f)

  none_written : (size i : ℕ) → size ≤ i → AreWritten size fields → field_in n fields i ≡ (λ (k : FieldKey). None)
  none_written size i high h = λ j k. by (place_of_field n.program k) j
    where
      by : (o : Option ℕ) → option_and_then (λ (place : ℕ). option_map (value_of n) (lookup (is_at i place) fields)) o ≡ None
      by None = refl
      by (Some place) = ap (option_map (value_of n)) (nowhere size i place high fields h.at)

  new_thing : (size i : ℕ) → size ≤ i → AreWritten size fields → (s : Shape) → refill i (given_shape n s) ≡ given_shape n s
  new_thing size i high h (Plain kind) = ap (λ (f : FieldKey → Option Value). Instance (n.kind kind) f) (none_written size i high h)
  new_thing size i high h (Array kind items) = refl

  new_things : (size i : ℕ) → size ≤ i → AreWritten size fields → (ts : List OwnThing) → refill_from i (given_things n ts) ≡ given_things n ts
  new_things size i high h [] = refl
  new_things size i high h (t ∷ ts) = λ j. new_thing size i high h (shape_of t) j ∷ new_things size (suc i) (omega (arith, high)) h ts j

-- ---- worlds with more things

give_locks : (w : World) (ts : List Thing) → (give_all w ts).locks ≡ w.locks
give_locks w [] = refl
give_locks w (t ∷ ts) = give_locks (with_given w t) ts

give_statics : (w : World) (ts : List Thing) → (give_all w ts).statics ≡ w.statics
give_statics w [] = refl
give_statics w (t ∷ ts) = give_statics (with_given w t) ts

give_exposed : (v w : World) (ts : List Thing) → v.exposed ≡ w.exposed → length v.heap ≡ length w.heap → (give_all v ts).exposed ≡ (give_all w ts).exposed
give_exposed v w [] e h = e
give_exposed v w (t ∷ ts) e h =
    let one = length-append v.heap (t ∷ []) in
    let two = length-append w.heap (t ∷ []) in
    give_exposed (with_given v t) (with_given w t) ts (λ i. e i ++ record { number = h i; printed = false } ∷ []) (omega (arith, one, two, h))

-- ---- the fields are laid aside and brought back

module _ (l : Lookups) (w z w1 : OwnWorld) (g : Gifts) (i : IsGiven l w g) where
  abbrev n : Names
  n = names_in l

  abbrev aside : OwnWorld
  aside = record w { fields = z.fields }

  abbrev back : OwnWorld
  back = record w1 { fields = w.fields }

  pub given_aside : z.fields.entries ≡ [] → IsGiven l aside g
  given_aside e = record {
    sound = record {
      fine = record {
        arrays = i.sound.fine.arrays;
        fields = λ j x f. absurd (nothing e j x f);
        statics = i.sound.fine.statics;
        locks = i.sound.fine.locks;
      };
      kinds = i.sound.kinds;
      placed = i.sound.placed;
      written = record { at = λ j x f. absurd (nothing e j x f) };
      short = i.sound.short;
      statics = i.sound.statics;
    };
    kinds = i.kinds;
    short = i.short;
    fine = i.fine;
  }
    where
      none_of : (es : List ((ℕ × ℕ) × Datum)) → es ≡ [] → (j : ℕ) (x : (ℕ × ℕ) × Datum) → slice_get es j ≡ Some x → ⊥
      none_of [] e j x f = absurd (cc)
      none_of (y ∷ ys) e j x f = absurd (cc)

      nothing : z.fields.entries ≡ [] → (j : ℕ) (x : (ℕ × ℕ) × Datum) → slice_get z.fields.entries j ≡ Some x → ⊥
      nothing e j x f = none_of z.fields.entries e j x f

  abbrev things : List Thing
  things = given_things n g.things.items

  module _ (a : AreGiven l g aside w1) where
    heap_back : things_from n w.fields.entries 0 (spots_of w1) ≡ (given_world n w g).heap
    heap_back =
        let long = things_long n z.fields.entries 0 (spots_of w) in
        let none_more : 0 + length (things_from n z.fields.entries 0 (spots_of w)) ≡ length (spots_of w) = omega (arith, long) in
        refilled n w.fields.entries w1.fields.entries 0 (spots_of w1)
        ∙ ap (λ (v : World). refill_from n w.fields.entries 0 v.heap) a.world
        ∙ ap (refill_from n w.fields.entries 0) (give_heap (world_of n aside) things)
        ∙ refill_more n w.fields.entries 0 (things_from n z.fields.entries 0 (spots_of w)) things
        ∙ ap (λ (ts : List Thing). ts ++ refill_from n w.fields.entries (0 + length (things_from n z.fields.entries 0 (spots_of w))) things) (sym (refilled n w.fields.entries z.fields.entries 0 (spots_of w)))
        ∙ ap (λ (k : ℕ). things_from n w.fields.entries 0 (spots_of w) ++ refill_from n w.fields.entries k things) none_more
        ∙ ap (λ (ts : List Thing). things_from n w.fields.entries 0 (spots_of w) ++ ts) (new_things n w.fields.entries (length (spots_of w)) (length (spots_of w)) (omega arith) i.sound.written g.things.items)
        ∙ sym (give_heap (world_of n w) things)

    named_back : world_of n back ≡ given_world n w g
    named_back =
        let was = things_long n w.fields.entries 0 (spots_of w) in
        let now = things_long n z.fields.entries 0 (spots_of w) in
        let exposed = ap (λ (v : World). v.exposed) a.world ∙ give_exposed (world_of n aside) (world_of n w) things refl (omega (arith, was, now)) in
        let locks = ap (λ (v : World). v.locks) a.world ∙ give_locks (world_of n aside) things ∙ sym (give_locks (world_of n w) things) in
        let statics = ap (λ (v : World). v.statics) a.world ∙ give_statics (world_of n aside) things ∙ sym (give_statics (world_of n w) things) in
        λ j. record { heap = heap_back j; locks = locks j; statics = statics j; exposed = exposed j }

    more : length (spots_of w) ≤ length (spots_of w1)
    more =
        let all = length-append (spots_of w) (map new_spot g.things.items) in
        let same = a.spots in
        omega (arith, all, same)

    pub given_back : AreGiven l g w back
    given_back = record {
      world = named_back;
      spots = a.spots;
      sound = record {
        fine = record {
          arrays = a.sound.fine.arrays;
          fields = λ j x f. fine_more n (length (spots_of w)) (length (spots_of w1)) x.1 more (i.sound.fine.fields j x f);
          statics = a.sound.fine.statics;
          locks = a.sound.fine.locks;
        };
        kinds = a.sound.kinds;
        placed = a.sound.placed;
        written = record { at = λ j x f. let low = i.sound.written.at j x f in omega (arith, low, more) };
        short = a.sound.short;
        statics = a.sound.statics;
      };
      locks = a.locks;
    }
