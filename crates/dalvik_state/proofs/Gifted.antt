-- The world with the objects of a move, by numbers and by names.
use Rattle.std.proofs.Common.{◌≡◌, ℕ, zero, suc, ◌+◌, ◌-◌, ◌<◌, ◌≤◌, Bool, true, false, min, List, [], ◌∷◌, ◌++◌, length, map, replicate, arith, ap, refl, sym, subst, ◌∙◌, append_assoc, append-nil, length-append}
use Rattle.std.specs.Prelude.{Option, Some, None, ◌&&◌, not, nat_eq, slice_get}
use Rattle.std.specs.Option.{option_map}
use Rattle.dalvik_lookups.specs.declared.lookups.Lookups.{Lookups}
use Rattle.dalvik_lookups.specs.declared.types.Kind.{Kind}
use Rattle.dalvik_lookups.specs.Facing.{run_face}
use Rattle.dalvik_lookups.specs.Views.{name_at, type_text, AreTypes, IsKind}
use Rattle.dalvik_lookups.proofs.Descriptors.{known_at, known_kind}
use Rattle.dalvik_defs.specs.Names.{Text, array_of, class_type, string_type}
use Rattle.dalvik_defs.specs.Naming.{named}
use Rattle.dalvik_defs.specs.Gives.{exposed_at, is_on}
use Rattle.dalvik_defs.specs.Show.{with_given}
use Rattle.dalvik_defs.specs.State.{Exposed as Seen, Thing, World, kind_of, kind_of_thing, next_object}
use Rattle.dalvik_defs.specs.Under.{is_under}
use Rattle.dalvik_defs.specs.declared.state.Value.{Value}
use Rattle.dalvik_defs.specs.declared.state.Value.TheVariants.{Word, Object}
use Rattle.dalvik_state.specs.declared.datum.Datum.{Datum}
use Rattle.dalvik_state.specs.declared.datum.Datum.TheVariants as datum
use Rattle.dalvik_state.specs.declared.gifts.Gifts.{Gifts}
use Rattle.dalvik_state.specs.declared.world.Exposed.{Exposed}
use Rattle.dalvik_state.specs.declared.world.Thing.{Thing as OwnThing}
use Rattle.dalvik_state.specs.declared.world.World.{World as OwnWorld}
use Rattle.dalvik_state.specs.Drafts.{give_all, gift_spots, given_shape, given_things, given_world, kind_text}
use Rattle.dalvik_state.specs.States.{kind_within, AreKinds, IsFineKind}
use Rattle.dalvik_state.specs.Views.{IsFine, Names, exposed_of, names_in, thing_of, things_from, value_of, world_of}
use Rattle.dalvik_state.specs.Worlds.{Shape, Plain, Array, Spot, kind_in, kind_of_shape, new_spot, shape_of, spots_of}
use Rattle.dalvik_state.proofs.Places.{seen_long}
use Rattle.dalvik_state.proofs.Things.{things_long}

-- ---- things that are given one behind another

pub things_more : (n : Names) (ts us : List OwnThing) → given_things n (ts ++ us) ≡ given_things n ts ++ given_things n us
things_more n [] us = refl
things_more n (t ∷ ts) us = ap (λ (xs : List Thing). given_shape n (shape_of t) ∷ xs) (things_more n ts us)

pub things_count : (n : Names) (ts : List OwnThing) → length (given_things n ts) ≡ length ts
things_count n [] = refl
things_count n (t ∷ ts) = ap suc (things_count n ts)

pub give_more : (w : World) (ts us : List Thing) → give_all w (ts ++ us) ≡ give_all (give_all w ts) us
give_more w [] us = refl
give_more w (t ∷ ts) us = give_more (with_given w t) ts us

pub give_heap : (w : World) (ts : List Thing) → (give_all w ts).heap ≡ w.heap ++ ts
give_heap w [] = sym (append-nil w.heap)
give_heap w (t ∷ ts) = give_heap (with_given w t) ts ∙ append_assoc w.heap (t ∷ []) ts

pub give_seen : (w : World) (ts : List Thing) → length (give_all w ts).exposed ≡ length w.exposed + length ts
give_seen w [] = omega arith
give_seen w (t ∷ ts) =
    let more = give_seen (with_given w t) ts in
    let one = length-append w.exposed (record { number = length w.heap; printed = false } ∷ []) in
    omega (arith, more, one)

left_at : {X : Type 0} (xs ys : List X) (i : ℕ) → i < length xs → slice_get (xs ++ ys) i ≡ slice_get xs i
left_at [] ys i h = absurd (omega arith)
left_at (x ∷ xs) ys zero h = refl
left_at (x ∷ xs) ys (suc i) h = left_at xs ys i (omega arith)

last_at : {X : Type 0} (xs : List X) (y : X) (i : ℕ) → i ≡ length xs → slice_get (xs ++ y ∷ []) i ≡ Some y
last_at [] y zero e = refl
last_at [] y (suc i) e = absurd (omega (arith, e))
last_at (x ∷ xs) y zero e = absurd (omega (arith, e))
last_at (x ∷ xs) y (suc i) e = last_at xs y i (omega (arith, e))

past_at : {X : Type 0} (xs : List X) (i : ℕ) → length xs ≤ i → slice_get xs i ≡ None
past_at [] i h = refl
past_at (x ∷ xs) zero h = absurd (omega arith)
past_at (x ∷ xs) (suc i) h = past_at xs i (omega arith)

-- what was exposed before stays where it is
pub seen_before : (w : World) (ts : List Thing) (i : ℕ) → i < length w.exposed → slice_get (give_all w ts).exposed i ≡ slice_get w.exposed i
seen_before w [] i h = refl
seen_before w (t ∷ ts) i h =
    let one = length-append w.exposed (record { number = length w.heap; printed = false } ∷ []) in
    seen_before (with_given w t) ts i (omega (arith, h, one)) ∙ left_at w.exposed (record { number = length w.heap; printed = false } ∷ []) i h

-- the objects stand behind it, in order
pub seen_behind : (w : World) (ts : List Thing) (i k : ℕ) → i ≡ length w.exposed + k → k < length ts → slice_get (give_all w ts).exposed i ≡ Some (record { number = length w.heap + k; printed = false })
seen_behind w [] i k e h = absurd (omega (arith, h))
seen_behind w (t ∷ ts) i zero e h =
    let one = length-append w.exposed (record { number = length w.heap; printed = false } ∷ []) in
    let number : length w.heap ≡ length w.heap + 0 = omega arith in
    seen_before (with_given w t) ts i (omega (arith, e, one))
    ∙ last_at w.exposed (record { number = length w.heap; printed = false }) i (omega (arith, e))
    ∙ ap (λ (k : ℕ). Some (record { number = k; printed = false })) number
seen_behind w (t ∷ ts) i (suc k) e h =
    let one = length-append w.exposed (record { number = length w.heap; printed = false } ∷ []) in
    let heap = length-append w.heap (t ∷ []) in
    let number : length (w.heap ++ t ∷ []) + k ≡ length w.heap + suc k = omega (arith, heap) in
    seen_behind (with_given w t) ts i k (omega (arith, e, one)) (omega (arith, h)) ∙ ap (λ (k : ℕ). Some (record { number = k; printed = false })) number

-- ---- the world with the objects

module _ (n : Names) (w : OwnWorld) (g : Gifts) where
  -- one object more
  pub world_more : (h : Gifts) (t : OwnThing) → h.things.items ≡ g.things.items ++ t ∷ [] → given_world n w h ≡ with_given (given_world n w g) (given_shape n (shape_of t))
  world_more h t e =
      ap (λ (ts : List OwnThing). give_all (world_of n w) (given_things n ts)) e
      ∙ ap (give_all (world_of n w)) (things_more n g.things.items (t ∷ []))
      ∙ give_more (world_of n w) (given_things n g.things.items) (given_shape n (shape_of t) ∷ [])

  pub heap_long : length (given_world n w g).heap ≡ length (spots_of w) + length g.things.items
  heap_long =
      let heap = ap length (give_heap (world_of n w) (given_things n g.things.items)) in
      let both = length-append (world_of n w).heap (given_things n g.things.items) in
      let old = things_long n w.fields.entries 0 (spots_of w) in
      let new = things_count n g.things.items in
      omega (arith, heap, both, old, new)

  -- the number of the next one
  pub next_given : next_object (given_world n w g) ≡ Object (length (spots_of w) + length g.things.items)
  next_given = ap Object heap_long

  pub spots_count : length (gift_spots w g) ≡ length (spots_of w) + length g.things.items
  spots_count =
      let both = length-append (spots_of w) (map new_spot g.things.items) in
      let new = new_long g.things.items in
      omega (arith, both, new)
    where
      new_long : (ts : List OwnThing) → length (map new_spot ts) ≡ length ts
      new_long [] = refl
      new_long (t ∷ ts) = ap suc (new_long ts)

  -- ---- exposed objects

  pub places_count : length (given_world n w g).exposed ≡ length w.exposed.items + length g.things.items
  places_count =
      let all = give_seen (world_of n w) (given_things n g.things.items) in
      let old = seen_long w.exposed.items in
      let new = things_count n g.things.items in
      omega (arith, all, old, new)

  abbrev object_in : Option Seen → Value
  object_in o = elim o as (λ o. Value) [ Some e ↦ Object e.number | None ↦ Word 0 ]

  seen_of : (es : List Exposed) (i : ℕ) (e : Exposed) → slice_get es i ≡ Some e → slice_get (map exposed_of es) i ≡ Some (exposed_of e)
  seen_of [] i e g = absurd (cc)
  seen_of (x ∷ xs) zero e g = let same : x ≡ e = cc in ap (λ (y : Exposed). Some (exposed_of y)) same
  seen_of (x ∷ xs) (suc i) e g = seen_of xs i e g

  pub place_before : (i : ℕ) (e : Exposed) → slice_get w.exposed.items i ≡ Some e → i < length w.exposed.items → exposed_at (given_world n w g) i ≡ Object e.number
  place_before i e at low =
      let old = seen_long w.exposed.items in
      ap object_in (seen_before (world_of n w) (given_things n g.things.items) i (omega (arith, old, low)) ∙ seen_of w.exposed.items i e at)

  pub place_behind : (i : ℕ) → length w.exposed.items ≤ i → i - length w.exposed.items < length g.things.items → exposed_at (given_world n w g) i ≡ Object (length (spots_of w) + (i - length w.exposed.items))
  place_behind i high low =
      let old = seen_long w.exposed.items in
      let new = things_count n g.things.items in
      let k = i - length w.exposed.items in
      ap object_in (seen_behind (world_of n w) (given_things n g.things.items) i k (omega (arith, old, high)) (omega (arith, new, low)))
      ∙ ap (λ (s : ℕ). Object (s + k)) (things_long n w.fields.entries 0 (spots_of w))

  pub place_past : (i : ℕ) → length w.exposed.items + length g.things.items ≤ i → exposed_at (given_world n w g) i ≡ Word 0
  place_past i high =
      let all = places_count in
      ap object_in (past_at (given_world n w g).exposed i (omega (arith, all, high)))

-- ---- types by names

abbrev text_by : Option Thing → Text
text_by o = elim o as (λ o. Text) [ Some t ↦ kind_of_thing t | None ↦ [] ]

module _ (l : Lookups) where
  kind_deeper : (k : Kind) → IsFineKind l k → array_of (type_text l.types k) ≡ type_text l.types (record { depth = min (k.depth + 1) 18446744073709551615; base = k.base })
  kind_deeper k f =
      let low = f.deep in
      let e : suc k.depth ≡ min (k.depth + 1) 18446744073709551615 = omega (arith, low) in
      ap (λ (d : ℕ). replicate d 91 ++ name_at l.types k.base) e

  given_text : (s : Shape) → IsFineKind l (kind_within s) → kind_of_thing (given_shape (names_in l) s) ≡ type_text l.types (kind_of_shape s)
  given_text (Plain kind) f = refl
  given_text (Array kind items) f = kind_deeper kind f

  thing_text : (fields : List ((ℕ × ℕ) × Datum)) (k : ℕ) (s : Shape) → IsFineKind l (kind_within s) → kind_of_thing (thing_of (names_in l) fields k s) ≡ type_text l.types (kind_of_shape s)
  thing_text fields k (Plain kind) f = refl
  thing_text fields k (Array kind items) f = kind_deeper kind f

  heap_text : (fields : List ((ℕ × ℕ) × Datum)) (k : ℕ) (ss : List Spot) (ts : List OwnThing) (i : ℕ) → ((j : ℕ) (s : Spot) → slice_get (ss ++ map new_spot ts) j ≡ Some s → IsFineKind l (kind_within s.shape))
      → text_by (slice_get (things_from (names_in l) fields k ss ++ given_things (names_in l) ts) i) ≡ kind_text l (option_map (λ (s : Spot). kind_of_shape s.shape) (slice_get (ss ++ map new_spot ts) i))
  heap_text fields k [] [] i h = refl
  heap_text fields k [] (t ∷ ts) zero h = given_text (shape_of t) (h 0 (new_spot t) refl)
  heap_text fields k [] (t ∷ ts) (suc i) h = heap_text fields k [] ts i (λ j s e. h (suc j) s e)
  heap_text fields k (s ∷ ss) ts zero h = thing_text fields k s.shape (h 0 s refl)
  heap_text fields k (s ∷ ss) ts (suc i) h = heap_text fields (suc k) ss ts i (λ j x e. h (suc j) x e)

  -- the type of a value is that of what it refers to
  pub kind_named : (w : OwnWorld) (g : Gifts) (d : Datum) → AreTypes l.types → AreKinds l (gift_spots w g) → kind_of (given_world (names_in l) w g) (value_of (names_in l) d) ≡ kind_text l (kind_in (gift_spots w g) d)
  kind_named w g (datum.Object x) a h =
      ap (λ (ts : List Thing). text_by (slice_get ts x)) (give_heap (world_of (names_in l) w) (given_things (names_in l) g.things.items))
      ∙ heap_text w.fields.entries 0 (spots_of w) g.things.items x h.at
  kind_named w g (datum.Literal x) a h = sym (known_at l.types a 1 string_type refl)
  kind_named w g (datum.Class x) a h = sym (known_at l.types a 2 class_type refl)
  kind_named w g (datum.Word x) a h = refl
  kind_named w g (datum.Low x) a h = refl
  kind_named w g (datum.High x) a h = refl

  shape_kind : (s : Shape) → IsFineKind l (kind_within s) → IsKind l.types (kind_of_shape s)
  shape_kind (Plain kind) f = f.there
  shape_kind (Array kind items) f = record { base = f.there.base; bare = f.there.bare }

  spot_kind : (spots : List Spot) (o : Option Spot) (k : Kind) → ((s : Spot) → o ≡ Some s → IsFineKind l (kind_within s.shape)) → option_map (λ (s : Spot). kind_of_shape s.shape) o ≡ Some k → IsKind l.types k
  spot_kind spots None k h e = absurd (cc)
  spot_kind spots (Some s) k h e = let same : kind_of_shape s.shape ≡ k = cc in subst (IsKind l.types) same (shape_kind s.shape (h s refl))

  -- and it stands in the tables
  pub kind_there : (spots : List Spot) (d : Datum) (k : Kind) → AreTypes l.types → AreKinds l spots → kind_in spots d ≡ Some k → IsKind l.types k
  kind_there spots (datum.Object x) k a h e = spot_kind spots (slice_get spots x) k (h.at x) e
  kind_there spots (datum.Literal x) k a h e = let same : record { depth = 0; base = 1 } ≡ k = cc in subst (IsKind l.types) same (known_kind l.types a 1 string_type refl refl)
  kind_there spots (datum.Class x) k a h e = let same : record { depth = 0; base = 2 } ≡ k = cc in subst (IsKind l.types) same (known_kind l.types a 2 class_type refl refl)
  kind_there spots (datum.Word x) k a h e = absurd (cc)
  kind_there spots (datum.Low x) k a h e = absurd (cc)
  kind_there spots (datum.High x) k a h e = absurd (cc)

  -- ---- a value that isn't null and is under a type

  abbrev under_by : Bool → Text → Text → Bool
  under_by b s t = not b && is_under (named l.program.now) l.framework.now s t

  nothing_under : (b : Bool) → not b && false ≡ false
  nothing_under true = refl
  nothing_under false = refl

  there_of : (spots : List Spot) (x : ℕ) → x < length spots → option_map (λ (s : Spot). kind_of_shape s.shape) (slice_get spots x) ≡ None → ⊥
  there_of [] x h e = absurd (omega arith)
  there_of (s ∷ ss) zero h e = absurd (cc)
  there_of (s ∷ ss) (suc x) h e = there_of ss x (omega arith) e

  pub on_none : (w : World) (spots : List Spot) (d : Datum) (t : Text) → IsFine (names_in l) (length spots) d → kind_in spots d ≡ None → false ≡ is_on (run_face l) w (value_of (names_in l) d) t
  on_none w spots (datum.Word x) t f e = sym (nothing_under (nat_eq x 0))
  on_none w spots (datum.Low x) t f e = refl
  on_none w spots (datum.High x) t f e = refl
  on_none w spots (datum.Object x) t f e = absurd (there_of spots x f e)
  on_none w spots (datum.Literal x) t f e = absurd (cc)
  on_none w spots (datum.Class x) t f e = absurd (cc)

  pub on_some : (w : World) (spots : List Spot) (d : Datum) (k : Kind) (t : Text) → kind_in spots d ≡ Some k → kind_of w (value_of (names_in l) d) ≡ type_text l.types k
      → is_under (named l.program.now) l.framework.now (type_text l.types k) t ≡ is_on (run_face l) w (value_of (names_in l) d) t
  on_some w spots (datum.Object x) k t e h = ap (λ (s : Text). under_by false s t) (sym h)
  on_some w spots (datum.Literal x) k t e h = ap (λ (s : Text). under_by false s t) (sym h)
  on_some w spots (datum.Class x) k t e h = ap (λ (s : Text). under_by false s t) (sym h)
  on_some w spots (datum.Word x) k t e h = absurd (cc)
  on_some w spots (datum.Low x) k t e h = absurd (cc)
  on_some w spots (datum.High x) k t e h = absurd (cc)
