-- What the framework writes in items of arrays, by numbers and by names.
use Rattle.std.proofs.Common.{◌≡◌, ℕ, zero, suc, ◌<◌, inl, inr, Bool, true, false, List, [], ◌∷◌, ◌++◌, length, map, arith, ap, refl, sym, subst, ◌∙◌, lt-ltb, ltb-true}
use Rattle.std.specs.Prelude.{nat_lt, Option, Some, None, slice_get, slice_set}
use Rattle.std.specs.Option.{option_map}
use Rattle.std.proofs.lemmas.List.{map-set}
use Rattle.program_model.specs.declared.pass.Outside.{Outside}
use Rattle.dalvik_defs.specs.Gives.{fits, gets}
use Rattle.dalvik_defs.specs.Happens.{Setting}
use Rattle.dalvik_defs.specs.Items.{item_of_type, stored}
use Rattle.dalvik_defs.specs.Moves.{array_put, goes, with_item, writes_item}
use Rattle.dalvik_defs.specs.Names.{Text}
use Rattle.dalvik_defs.specs.State.{Classes, Ended, Items, Next, On, Thing, World, put_thing, quiet, thing_at}
use Rattle.dalvik_defs.specs.declared.events.Event.{Event}
use Rattle.dalvik_defs.specs.declared.script.Given.{Given}
use Rattle.dalvik_defs.specs.declared.script.Move.{Move}
use Rattle.dalvik_defs.specs.declared.state.Value.{Value}
use Rattle.dalvik_defs.specs.declared.state.Waiting.{Waiting}
use Rattle.dalvik_lookups.specs.Playing.{IsGift}
use Rattle.dalvik_lookups.specs.Views.{type_text, IsKind}
use Rattle.dalvik_lookups.specs.declared.lookups.Lookups.{Lookups}
use Rattle.dalvik_lookups.specs.declared.memo.Memo.{Memo}
use Rattle.dalvik_lookups.specs.declared.plays.Gift.{Gift}
use Rattle.dalvik_lookups.specs.declared.types.Kind.{Kind}
use Rattle.dalvik_lookups.proofs.Interned.{got_left, got_short}
use Rattle.dalvik_state.specs.declared.datum.Datum.{Datum}
use Rattle.dalvik_state.specs.declared.datum.Datum.TheVariants as datum
use Rattle.dalvik_state.specs.declared.gifts.Gifts.{Gifts}
use Rattle.dalvik_state.specs.declared.state.State.{State}
use Rattle.dalvik_state.specs.declared.world.World.{World as OwnWorld}
use Rattle.dalvik_state.specs.Drafts.{give_all, given_things, given_world}
use Rattle.dalvik_state.specs.Giving.{AreGiven, IsGivenFine}
use Rattle.dalvik_state.specs.Runs.{classes_in, IsEvent, IsNext}
use Rattle.dalvik_state.specs.States.{kind_within, IsFineKind, IsSound}
use Rattle.dalvik_state.specs.Views.{Names, names_in, thing_of, value_of, values_of, world_of, IsFine}
use Rattle.dalvik_state.specs.Worlds.{new_spot, shape_at, spots_of, put_shape, reshape_at, Array, Plain, Shape, Spot, IsHeap}
use Rattle.dalvik_state.proofs.Fine.{as_many}
use Rattle.dalvik_state.proofs.Gifted.{give_heap}
use Rattle.dalvik_state.proofs.Grown.{sound_put}
use Rattle.dalvik_state.proofs.Things.{changed_named}
use Rattle.dalvik_steps.specs.Turns.{IsAsItWas}
use Rattle.dalvik_steps.proofs.Undone.{reserved_world, running_same, world_same}
use Rattle.dalvik_moves.specs.Moving.{exposed_in, freed_in, item_in, IsDone, IsMoving}
use Rattle.dalvik_moves.specs.Touching.{kind_there}
use Rattle.dalvik_moves.proofs.Moved.{event_as, world_done}
use Rattle.dalvik_moves.proofs.Touched.{exposes, gifts_more, number_of, thing_here, Exposes, IsExposedAt}

-- ---- an array behind the objects that are given

-- by names it is this one
record IsArrayAs (n : Names) (w : OwnWorld) (d : Datum) (kind : Text) (vs : List Value) : Type 0 where
  pub own : Kind
  pub items : List Datum
  pub shape : shape_at (spots_of w) d ≡ Some (Array own items)
  pub named : n.kind own ≡ kind
  pub values : values_of n items ≡ vs

array_as : (n : Names) (w : OwnWorld) (d : Datum) (kind : Text) (vs : List Value) → thing_at (world_of n w) (value_of n d) ≡ Some (Items kind vs) → IsArrayAs n w d kind vs
array_as n w d kind vs e = by (shape_at (spots_of w) d) refl (sym (thing_here n w d) ∙ e)
  where
    by : (o : Option Shape) → shape_at (spots_of w) d ≡ o → option_map (thing_of n w.fields.entries (number_of d)) o ≡ Some (Items kind vs) → IsArrayAs n w d kind vs
    by None f h = absurd (cc)
    by (Some (Plain own)) f h = absurd (cc)
    by (Some (Array own items)) f h = record {
      own = own;
      items = items;
      shape = f;
      named = (let same : n.kind own ≡ kind = cc in same);
      values = (let same : values_of n items ≡ vs = cc in same);
    }

array_given : (n : Names) (w : OwnWorld) (g : Gifts) (d : Datum) (kind : Kind) (items : List Datum) → shape_at (spots_of w) d ≡ Some (Array kind items) → thing_at (given_world n w g) (value_of n d) ≡ Some (Items (n.kind kind) (values_of n items))
array_given n w g (datum.Object i) kind items e =
    let here = thing_here n w (datum.Object i) ∙ ap (option_map (thing_of n w.fields.entries i)) e in
    let things = given_things n g.things.items in
    ap (λ (ts : List Thing). slice_get ts i) (give_heap (world_of n w) things) ∙ got_left (world_of n w).heap things i (Items (n.kind kind) (values_of n items)) here
array_given n w g (datum.Word x) kind items e = absurd (cc)
array_given n w g (datum.Low x) kind items e = absurd (cc)
array_given n w g (datum.High x) kind items e = absurd (cc)
array_given n w g (datum.Literal x) kind items e = absurd (cc)
array_given n w g (datum.Class x) kind items e = absurd (cc)

-- ---- room is made for the objects

module _ (l : Lookups) (w v : OwnWorld) (h : IsAsItWas w v) (g : Gifts) where
  pub fine_same : (d : Datum) → IsGivenFine l w g d → IsGivenFine l v g d
  fine_same d f = subst (λ (ss : List Spot). IsFine (names_in l) (length (ss ++ map new_spot g.things.items)) d) (sym h.heap) f

  pub with_same : given_world (names_in l) v g ≡ given_world (names_in l) w g
  with_same = ap (λ (u : World). give_all u (given_things (names_in l) g.things.items)) (world_same (names_in l) w v h)

pub moving_same : (l : Lookups) (steps : ℕ) (s : State) (w : OwnWorld) → IsAsItWas s.world w → (o : Outside) (m : Memo) (script : List Move) (owes : Option Kind) (first : Move) (rest : List Move) → IsMoving l o m script steps s owes first rest → IsMoving l o m script steps (record s { world = w }) owes first rest
moving_same l steps s w h o m script owes first rest b = record {
  run = record { right = b.run.right; kept = b.run.kept; state = running_same l steps s (record s { world = w }) b.run.state (reserved_world s w h); early = b.run.early; on = b.run.on };
  reach = b.reach;
  place = b.place;
  top = b.top;
  waits = b.waits;
  left = b.left;
}

pub next_same : (l : Lookups) (steps : ℕ) (script : List Move) (m : Memo) (s : State) (e : Option Event) (a b : Next) → a ≡ b → IsNext l steps script m s e a → IsNext l steps script m s e b
next_same l steps script m s e a b same h = subst (IsNext l steps script m s e) same h

-- the type of the items of an array stands in the tables
pub array_kind : (l : Lookups) (w : OwnWorld) (d : Datum) (kind : Kind) (items : List Datum) → IsSound l w → shape_at (spots_of w) d ≡ Some (Array kind items) → IsKind l.types kind
array_kind l w (datum.Object i) kind items s e = by (slice_get (spots_of w) i) refl e
  where
    by : (o : Option Spot) → slice_get (spots_of w) i ≡ o → option_map (λ (x : Spot). x.shape) o ≡ Some (Array kind items) → IsKind l.types kind
    by None f h = absurd (cc)
    by (Some x) f h = (let same : x.shape ≡ Array kind items = cc in (subst (λ (z : Shape). IsFineKind l (kind_within z)) same (s.kinds.at i x f)).there)
array_kind l w (datum.Word x) kind items s e = absurd (cc)
array_kind l w (datum.Low x) kind items s e = absurd (cc)
array_kind l w (datum.High x) kind items s e = absurd (cc)
array_kind l w (datum.Literal x) kind items s e = absurd (cc)
array_kind l w (datum.Class x) kind items s e = absurd (cc)

-- what has an item is an array
pub shape_same : (w : OwnWorld) (place : ℕ) (d : Datum) (kind : Kind) → Some kind ≡ kind_there (item_in place (shape_at (spots_of w) d)) → (items : List Datum) × (shape_at (spots_of w) d ≡ Some (Array kind items))
shape_same w place d kind e = by (shape_at (spots_of w) d) refl e
  where
    by : (o : Option Shape) → shape_at (spots_of w) d ≡ o → Some kind ≡ kind_there (item_in place o) → (items : List Datum) × (shape_at (spots_of w) d ≡ Some (Array kind items))
    by None f h = absurd (cc)
    by (Some (Plain own)) f h = absurd (cc)
    by (Some (Array own items)) f h = at (slice_get items place) h
      where
        at : (z : Option Datum) → Some kind ≡ kind_there (Some (own, z)) → (items : List Datum) × (shape_at (spots_of w) d ≡ Some (Array kind items))
        at None q = absurd (cc)
        at (Some y) q = (let same : own ≡ kind = cc in (items, f ∙ ap (λ (k : Kind). Some (Array k items)) same))

-- ---- an item is written

module _ (l : Lookups) (o : Outside) (m : Memo) (script : List Move) (steps : ℕ) (s : State) (owes : Option Kind) (first : Move) (rest : List Move) (h : IsMoving l o m script steps s owes first rest) (g : Gifts) (mid new : OwnWorld) (a : AreGiven l g s.world mid) where
  pub item_put : (array : Datum) (place : ℕ) (d : Datum) (kind : Kind) (items : List Datum) → shape_at (spots_of s.world) array ≡ Some (Array kind items) → IsGivenFine l s.world g d → IsHeap mid new (reshape_at (put_shape place d) (spots_of mid) array)
      → (left : State) → IsDone (record s { world = new }) left → IsEvent l steps script left None (quiet (On (put_thing (given_world (names_in l) s.world g) (value_of (names_in l) array) (Items (type_text l.types kind) (slice_set (values_of (names_in l) items) place (value_of (names_in l) d)))) (classes_in l s) (freed_in l script s) rest))
  item_put array place d kind items there fine e left done =
      let n = names_in l in
      let more = gifts_more s.world g in
      let count = a.spots in
      let size : length (spots_of new) ≡ length (spots_of mid) = ap length e.heap ∙ as_many n (put_shape place d) (spots_of mid) array in
      let found = array_as n mid array (n.kind kind) (values_of n items) (ap (λ (v : World). thing_at v (value_of n array)) a.world ∙ array_given n s.world g array kind items there) in
      let named = changed_named n mid new (put_shape place d) array found.own found.items (slice_set found.items place d) found.shape refl e
      ∙ ap (λ (v : World). put_thing v (value_of n array) (Items (n.kind found.own) (values_of n (slice_set found.items place d)))) a.world
      ∙ ap (λ (t : Text). put_thing (given_world n s.world g) (value_of n array) (Items t (values_of n (slice_set found.items place d)))) found.named
      ∙ ap (λ (vs : List Value). put_thing (given_world n s.world g) (value_of n array) (Items (n.kind kind) vs)) (map-set (value_of n) found.items place d)
      ∙ ap (λ (vs : List Value). put_thing (given_world n s.world g) (value_of n array) (Items (n.kind kind) (slice_set vs place (value_of n d)))) found.values in
      let fine_now : IsFine n (length (spots_of mid)) d = subst (λ (k : ℕ). IsFine n k d) (sym a.spots) fine in
      event_as l steps script left None (quiet (On (world_of n new) (classes_in l s) (freed_in l script s) rest)) _
      (ap (λ (v : World). quiet (On v (classes_in l s) (freed_in l script s) rest)) named)
      (world_done l o m script steps s owes first rest new left None h (sound_put l mid new array place d fine_now e a.sound) (omega (arith, more, count, size)) (e.locks ∙ a.locks) done)

-- ---- a value that fits an item, or not

module _ (s : Setting) (w u : World) (classes : Classes) (on : Value) (kind : Text) (vs : List Value) (place : ℕ) (g : Given) (y : Value) (stack : List Waiting) (rest : List Move) (gets_is : gets w g ≡ (u, y)) where
  abbrev item_by : World × Value → Bool → Next
  item_by q b = elim b as (λ b. Next) [ true ↦ goes (with_item q.0 on kind vs place q.1) classes stack rest | false ↦ quiet Ended ]

  item_as : (b : Bool) → b ≡ fits s.face s.outer w u g y kind → writes_item s w classes on (Some (Items kind vs)) place g stack rest ≡ item_by (u, y) b
  item_as b e = ap (λ (q : World × Value). item_by q (fits s.face s.outer w q.0 g q.1 kind)) gets_is ∙ ap (item_by (u, y)) (sym e)

  abbrev there_by : Bool → Next
  there_by b = goes (elim b as (λ b. Option World) [ true ↦ Some (put_thing u on (Items kind (slice_set vs place (stored (item_of_type kind) y)))) | false ↦ None ]) classes stack rest

  pub item_then : (b : Bool) → b ≡ fits s.face s.outer w u g y kind → b ≡ true → place < length vs
      → quiet (On (put_thing u on (Items kind (slice_set vs place (stored (item_of_type kind) y)))) classes stack rest) ≡ writes_item s w classes on (Some (Items kind vs)) place g stack rest
  item_then b e h low = sym (item_as b e ∙ ap (item_by (u, y)) h ∙ ap there_by (lt-ltb place (length vs) low))

  pub item_over : (b : Bool) → b ≡ fits s.face s.outer w u g y kind → b ≡ false → writes_item s w classes on (Some (Items kind vs)) place g stack rest ≡ quiet Ended
  item_over b e h = item_as b e ∙ ap (item_by (u, y)) h

  past_by : (b : Bool) → nat_lt place (length vs) ≡ false → item_by (u, y) b ≡ quiet Ended
  past_by true h = ap there_by h
  past_by false h = refl

-- where there is no such item the run ends, whatever the value is
pub item_past : (s : Setting) (w : World) (classes : Classes) (on : Value) (kind : Text) (vs : List Value) (place : ℕ) (g : Given) (stack : List Waiting) (rest : List Move) → nat_lt place (length vs) ≡ false → writes_item s w classes on (Some (Items kind vs)) place g stack rest ≡ quiet Ended
item_past s w classes on kind vs place g stack rest h =
    let q = gets w g in
    past_by s w q.0 classes on kind vs place g q.1 stack rest refl (fits s.face s.outer w q.0 g q.1 kind) h

-- ---- an array that is exposed

pub many : (n : Names) (ds : List Datum) → length (values_of n ds) ≡ length ds
many n [] = refl
many n (d ∷ ds) = ap suc (many n ds)

not_below : (xs : List Datum) (i : ℕ) → slice_get xs i ≡ None → i < length xs → ⊥
not_below [] i e h = absurd (omega arith)
not_below (x ∷ xs) zero e h = absurd (cc)
not_below (x ∷ xs) (suc i) e h = not_below xs i e (omega arith)

no_item : (n : Names) (items : List Datum) (i : ℕ) → slice_get items i ≡ None → nat_lt i (length (values_of n items)) ≡ false
no_item n items i e = by (nat_lt i (length (values_of n items))) refl
  where
    by : (b : Bool) → nat_lt i (length (values_of n items)) ≡ b → b ≡ false
    by true h = absurd (not_below items i e (let low = ltb-true i (length (values_of n items)) h in let size = many n items in omega (arith, low, size)))
    by false h = refl

module _ (l : Lookups) (w : OwnWorld) (s : Setting) (classes : Classes) (g what : Given) (place : ℕ) (stack : List Waiting) (rest : List Move) where
  abbrev n : Names
  n = names_in l

  abbrev written : Next
  written = array_put s (world_of n w) classes g place what stack rest

  -- the array that is written, where it has an item there
  pub record PutsAt (d : Datum) (kind : Kind) : Type 0 where
    pub items : List Datum
    pub shape : shape_at (spots_of w) d ≡ Some (Array kind items)
    pub low : place < length items
    pub is : writes_item s (world_of n w) classes (value_of n d) (Some (Items (type_text l.types kind) (values_of n items))) place what stack rest ≡ written

  abbrev pub PutsAs : Datum → Option Kind → Type 0
  PutsAs d None = written ≡ quiet Ended
  PutsAs d (Some kind) = PutsAt d kind

  abbrev if_exposed : Bool → Next → Next
  if_exposed b to = elim b as (λ b. Next) [ true ↦ to | false ↦ quiet Ended ]

  abbrev item_of : Datum → Option Thing → Next
  item_of d t = writes_item s (world_of n w) classes (value_of n d) t place what stack rest

  puts_by : (d : Datum) → IsExposedAt n w g d → (o : Option Shape) → shape_at (spots_of w) d ≡ o → PutsAs d (kind_there (item_in place o))
  puts_by d x o e = by o e
      (ap (λ (b : Bool). if_exposed b (writes_item s (world_of n w) classes (gets (world_of n w) g).1 (thing_at (world_of n w) (gets (world_of n w) g).1) place what stack rest)) x.there
      ∙ ap (λ (v : Value). writes_item s (world_of n w) classes v (thing_at (world_of n w) v) place what stack rest) x.value
      ∙ ap (item_of d) (thing_here n w d ∙ ap (λ (z : Option Shape). option_map (thing_of n w.fields.entries (number_of d)) z) e))
    where
      by : (o : Option Shape) → shape_at (spots_of w) d ≡ o → written ≡ item_of d (option_map (thing_of n w.fields.entries (number_of d)) o) → PutsAs d (kind_there (item_in place o))
      by None f h = h
      by (Some (Plain kind)) f h = h
      by (Some (Array kind items)) f h = at (slice_get items place) refl
        where
          at : (z : Option Datum) → slice_get items place ≡ z → PutsAs d (kind_there (Some (kind, z)))
          at None q = h ∙ item_past s (world_of n w) classes (value_of n d) (type_text l.types kind) (values_of n items) place what stack rest (no_item n items place q)
          at (Some y) q = record { items = items; shape = f; low = got_short items place y q; is = sym h }

  pub array_written : (on : Gift) → IsGift l.types l.texts g on → (o : Option Kind) → o ≡ kind_there (item_in place (shape_at (spots_of w) (exposed_in w on))) → PutsAs (exposed_in w on) o
  array_written on h o e = by (exposes l w g on h)
    where
      by : Exposes n w g (exposed_in w on) → PutsAs (exposed_in w on) o
      by (inl x) = subst (PutsAs (exposed_in w on)) (sym e) (puts_by (exposed_in w on) x (shape_at (spots_of w) (exposed_in w on)) refl)
      by (inr x) = subst (PutsAs (exposed_in w on)) (sym (e ∙ ap (λ (d : Datum). kind_there (item_in place (shape_at (spots_of w) d))) x.1))
          (ap (λ (b : Bool). if_exposed b (writes_item s (world_of n w) classes (gets (world_of n w) g).1 (thing_at (world_of n w) (gets (world_of n w) g).1) place what stack rest)) x.0)
