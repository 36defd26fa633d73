-- Arrays that instructions make, fill, read and write, by names.
use Rattle.std.proofs.Common.{◌≡◌, ℕ, zero, suc, ◌+◌, ◌-◌, ◌<◌, ◌≤◌, ◌^◌, ◌⊎◌, inl, inr, Bool, true, false, List, [], ◌∷◌, ◌++◌, length, map, arith, ap, refl, sym, subst, ◌∙◌, lt-ltb, ltb-true}
use Rattle.std.specs.Prelude.{ℤ, pos, negsuc, ◌||◌, Option, Some, None, nat_lt, slice_get, slice_set, replicate, not}
use Rattle.std.specs.Option.{option_map}
use Rattle.std.specs.Int.{w32, cast_signed}
use Rattle.std.proofs.lemmas.List.{map-set}
use Rattle.std.proofs.lemmas.Option.{slice_get-map}
use Rattle.std.proofs.lemmas.Int.{ints}
use Rattle.std.proofs.lemmas.Bool.{cases_lt}
use lib.ListN.{length-map}
use mir.Val.{sel}
use Rattle.insn_set.specs.declared.ops.Item.{Item}
use Rattle.insn_set.specs.declared.ops.Item.TheVariants as item
use Rattle.dalvik_defs.specs.Names.{Text, is_wide, item_of}
use Rattle.dalvik_defs.specs.ActArray.{item_at, may_store, put_item, reads_item, writes_item, array_get, array_put, fills, new_array, zeros}
use Rattle.dalvik_defs.specs.Items.{fill, item_of_type, stored}
use Rattle.dalvik_defs.specs.Known.{negative_size, out_of_bounds}
use Rattle.dalvik_defs.specs.State.{Thing, Instance, Items, World, is_null, kind_of, next_object, put_thing, thing_at, with_thing}
use Rattle.dalvik_defs.specs.declared.names.FieldKey.{FieldKey}
use Rattle.dalvik_defs.specs.declared.state.Value.{Value}
use Rattle.dalvik_defs.specs.declared.state.Value.TheVariants.{Word}
use Rattle.dalvik_defs.specs.declared.state.Frame.{Frame as NamedFrame}
use Rattle.dalvik_defs.specs.Effect.{Effect, Goes, Faults, Stuck, next, register, sets, unless_null}
use Rattle.dalvik_lookups.specs.declared.lookups.Lookups.{Lookups}
use Rattle.dalvik_lookups.specs.declared.types.Kind.{Kind}
use Rattle.dalvik_lookups.specs.Views.{type_text}
use Rattle.dalvik_state.specs.declared.world.Thing.{Thing as OwnThing}
use Rattle.dalvik_state.specs.declared.datum.Datum.{Datum}
use Rattle.dalvik_state.specs.declared.datum.Datum.TheVariants as datum
use Rattle.dalvik_state.specs.declared.frame.Frame.{Frame}
use Rattle.dalvik_state.specs.declared.world.World.{World as OwnWorld}
use Rattle.dalvik_state.specs.Frames.{cell, fill_in, is_null_in, zero_in, IsMoved}
use Rattle.dalvik_state.specs.Worlds.{Shape, Plain, Array, Spot, fill_shape, new_spot, put_shape, reshape_at, shape_at, shape_of, spots_of, IsHeap, LeavesWorld}
use Rattle.dalvik_state.specs.declared.effect.Effect.{Effect as OwnEffect}
use Rattle.dalvik_state.specs.declared.effect.Effect.TheVariants as own
use Rattle.dalvik_state.proofs.Kept.{goes_world}
use Rattle.dalvik_state.specs.Views.{Names, field_in, names_in, value_of, values_of, thing_of, world_of, frame_of}
use Rattle.dalvik_state.proofs.Named.{cell_named, moved_named, null_named}
use Rattle.dalvik_state.proofs.Storing.{fill_named, zeros_named}
use Rattle.dalvik_state.proofs.Things.{added_named, changed_named, next_is}
use Rattle.dalvik_act.proofs.Lengths.{here, number_of, unless_something}
use Rattle.dalvik_act.specs.Acting.{new_array_of, adds_array, adds_zeros, contents_of, item_in, outline_of, place_below, place_in, puts_by}

-- ---- what a value refers to

module _ (n : Names) (w : OwnWorld) (d : Datum) where
  there : (o : Option Shape) → shape_at (spots_of w) d ≡ o → thing_at (world_of n w) (value_of n d) ≡ option_map (thing_of n w.fields.entries (number_of d)) o
  there o e = here n w d ∙ ap (option_map (thing_of n w.fields.entries (number_of d))) e

  -- what is done to an array that is there
  pub to_array : (does : Option Thing → Effect) (kind : Kind) (items : List Datum) → shape_at (spots_of w) d ≡ Some (Array kind items)
      → does (Some (Items (n.kind kind) (values_of n items))) ≡ unless_null (value_of n d) (does (thing_at (world_of n w) (value_of n d)))
  to_array does kind items e = sym (unless_something n (spots_of w) d (Array kind items) (does (thing_at (world_of n w) (value_of n d))) e ∙ ap does (there (Some (Array kind items)) e))

  -- and where there is none
  pub to_other : (does : Option Thing → Effect) → does None ≡ Stuck → ((c : Text) (fs : FieldKey → Option Value) → does (Some (Instance c fs)) ≡ Stuck) → contents_of (shape_at (spots_of w) d) ≡ None
      → unless_null (value_of n d) Stuck ≡ unless_null (value_of n d) (does (thing_at (world_of n w) (value_of n d)))
  to_other does none plain h = by_shape (shape_at (spots_of w) d) refl h
    where
      by_shape : (o : Option Shape) → shape_at (spots_of w) d ≡ o → contents_of o ≡ None → unless_null (value_of n d) Stuck ≡ unless_null (value_of n d) (does (thing_at (world_of n w) (value_of n d)))
      by_shape None s g = ap (unless_null (value_of n d)) (sym (ap does (there None s) ∙ none))
      by_shape (Some (Plain kind)) s g = ap (unless_null (value_of n d)) (sym (ap does (there (Some (Plain kind)) s) ∙ plain (n.kind kind) (field_in n w.fields.entries (number_of d))))
      by_shape (Some (Array kind items)) s g = absurd (cc)

-- an outline is that of an array with items
pub outlined : (o : Option Shape) (kind : Kind) (size : ℕ) → outline_of o ≡ Some (kind, size) → (items : List Datum) × (o ≡ Some (Array kind items)) × (size ≡ length items)
outlined None kind size e = absurd (cc)
outlined (Some (Plain k)) kind size e = absurd (cc)
outlined (Some (Array k items)) kind size e =
    let pair : ◌≡◌ {A = Kind × ℕ} (k, length items) (kind, size) = cc in
    (items, ap (λ (p : Kind × ℕ). Some (Array p.0 items)) pair, sym (ap (λ (p : Kind × ℕ). p.1) pair))

pub no_outline : (o : Option Shape) → outline_of o ≡ None → contents_of o ≡ None
no_outline None e = refl
no_outline (Some (Plain k)) e = refl
no_outline (Some (Array k items)) e = absurd (cc)

pub with_contents : (o : Option Shape) (items : List Datum) → contents_of o ≡ Some items → (kind : Kind) × (o ≡ Some (Array kind items))
with_contents None items e = absurd (cc)
with_contents (Some (Plain k)) items e = absurd (cc)
with_contents (Some (Array k ds)) items e = let same : ds ≡ items = cc in (k, ap (λ (es : List Datum). Some (Array k es)) same)

-- ---- items at an index

pub item_named : (n : Names) (ds : List Datum) (z : ℤ) → option_map (value_of n) (item_in ds z) ≡ item_at (values_of n ds) z
item_named n ds (pos i) = sym (slice_get-map (value_of n) ds i)
item_named n ds (negsuc i) = refl

positive : (z : ℤ) (i : ℕ) → place_in z ≡ Some i → z ≡ pos i
positive (pos j) i e = let same : j ≡ i = cc in ap pos same
positive (negsuc j) i e = absurd (cc)

pub place_low : (x : ℕ) → x < 2147483648 → Some x ≡ place_in (cast_signed w32 x)
place_low x h = ap place_in (let e : pos x ≡ cast_signed w32 x = omega (arith, ints) in e)

pub place_high : (x : ℕ) → 2147483648 ≤ x → x < 2 ^ 32 → None ≡ place_in (cast_signed w32 x)
place_high x h k =
    let past : nat_lt x 2147483648 ≡ false = grind (arith) in
    sym (ap (λ (b : Bool). place_in (sel b (pos x) (negsuc (4294967296 - suc x)))) past)

-- a number that is placed is itself
pub placed : (x i : ℕ) → place_in (cast_signed w32 x) ≡ Some i → cast_signed w32 x ≡ pos i
placed x i e = positive (cast_signed w32 x) i e

pub not_placed : (z : ℤ) → place_in z ≡ None → (i : ℕ) × (z ≡ negsuc i)
not_placed (pos i) e = absurd (cc)
not_placed (negsuc i) e = (i, refl)

item_there : (vs : List Value) (i : ℕ) → i < length vs → (v : Value) × (slice_get vs i ≡ Some v)
item_there [] i h = absurd (omega arith)
item_there (v ∷ vs) zero h = (v, refl)
item_there (v ∷ vs) (suc i) h = item_there vs i (omega arith)

item_past : (vs : List Value) (i : ℕ) → length vs ≤ i → slice_get vs i ≡ None
item_past [] i h = refl
item_past (v ∷ vs) zero h = absurd (omega arith)
item_past (v ∷ vs) (suc i) h = item_past vs i (omega arith)

not_less : (a b : ℕ) → nat_lt a b ≡ false → b ≤ a
not_less a b e = grind (arith)

module _ (fits : Bool) (i : Item) (k : Text) (vs : List Value) (w : World) (f : NamedFrame) (v on : Value) where
  -- a write at a place that is there
  pub puts_there : (z : ℤ) (p : ℕ) → place_below (length vs) z ≡ Some p → writes_item fits w f on (Items k (slice_set vs p (stored i v))) ≡ puts_by fits i (Some (Items k vs)) w f v on z
  puts_there (negsuc j) p e = absurd (cc)
  puts_there (pos j) p e = by_test (nat_lt j (length vs)) refl e
    where
      by_test : (b : Bool) → nat_lt j (length vs) ≡ b → elim b as (λ b. Option ℕ) [ true ↦ Some j | false ↦ None ] ≡ Some p → writes_item fits w f on (Items k (slice_set vs p (stored i v))) ≡ puts_by fits i (Some (Items k vs)) w f v on (pos j)
      by_test false t g = absurd (cc)
      by_test true t g =
          let same : p ≡ j = cc in
          let old = item_there vs j (ltb-true j (length vs) t) in
          ap (λ (q : ℕ). writes_item fits w f on (Items k (slice_set vs q (stored i v)))) same
          ∙ sym (ap (λ (o : Option Value). elim o as (λ o. Effect) [ Some x ↦ writes_item fits w f on (put_item i k vs (pos j) v) | None ↦ Faults out_of_bounds ]) old.1)

  -- and at one that is not
  pub puts_past : (z : ℤ) → place_below (length vs) z ≡ None → Faults out_of_bounds ≡ puts_by fits i (Some (Items k vs)) w f v on z
  puts_past (negsuc j) e = refl
  puts_past (pos j) e = by_test (nat_lt j (length vs)) refl e
    where
      by_test : (b : Bool) → nat_lt j (length vs) ≡ b → elim b as (λ b. Option ℕ) [ true ↦ Some j | false ↦ None ] ≡ None → Faults out_of_bounds ≡ puts_by fits i (Some (Items k vs)) w f v on (pos j)
      by_test true t g = absurd (cc)
      by_test false t g = sym (ap (λ (o : Option Value). elim o as (λ o. Effect) [ Some x ↦ writes_item fits w f on (put_item i k vs (pos j) v) | None ↦ Faults out_of_bounds ]) (item_past vs j (not_less j (length vs) t)))

-- ---- arrays that are made

pub zeroed : (l : Lookups) (old new : OwnWorld) (t : OwnThing) (kind : Kind) (size to : ℕ) (d : Datum) (f : NamedFrame) → IsHeap old new (spots_of old ++ new_spot t ∷ []) → shape_of t ≡ Array kind (replicate size (zero_in (is_wide (type_text l.types kind))))
    → d ≡ datum.Object (length (spots_of old)) → sets (world_of (names_in l) new) f to (value_of (names_in l) d) ≡ adds_zeros (type_text l.types kind) size (world_of (names_in l) old) f to
zeroed l old new t kind size to d f h s e =
    let n : Names = names_in l in
    let world : world_of n new ≡ with_thing (world_of n old) (zeros (type_text l.types kind) size) =
    added_named n old new t kind (replicate size (zero_in (is_wide (type_text l.types kind)))) h s ∙ ap (λ (vs : List Value). with_thing (world_of n old) (Items (type_text l.types kind) vs)) (zeros_named n (type_text l.types kind) size) in
    let number : value_of n d ≡ next_object (world_of n old) = ap (value_of n) e ∙ sym (next_is n old) in
    λ i. sets (world i) f to (number i)

read_named : (n : Names) (f : Frame) (args : List ℕ) → values_of n (map (cell f.registers.items) args) ≡ map (register (frame_of n f)) args
read_named n f [] = refl
read_named n f (a ∷ rest) = λ i. sym (cell_named n f a) i ∷ read_named n f rest i

pub gathered : (n : Names) (old new : OwnWorld) (t : OwnThing) (kind : Kind) (items : List Datum) (args : List ℕ) (d : Datum) (f h : Frame) → IsHeap old new (spots_of old ++ new_spot t ∷ []) → shape_of t ≡ Array kind items
    → items ≡ map (cell f.registers.items) args → d ≡ datum.Object (length (spots_of old)) → IsMoved (record f { result = d }) h (f.position + 1)
    → Goes (world_of n new) (frame_of n h) ≡ adds_array (n.kind kind) args (world_of n old) (frame_of n f)
gathered n old new t kind items args d f h heap s e k m =
    let values : values_of n items ≡ map (register (frame_of n f)) args = ap (values_of n) e ∙ read_named n f args in
    let world : world_of n new ≡ with_thing (world_of n old) (Items (n.kind kind) (map (register (frame_of n f)) args)) =
    added_named n old new t kind items heap s ∙ ap (λ (vs : List Value). with_thing (world_of n old) (Items (n.kind kind) vs)) values in
    let number : value_of n d ≡ next_object (world_of n old) = ap (value_of n) k ∙ sym (next_is n old) in
    let frame : frame_of n h ≡ next (record (frame_of n f) { result = next_object (world_of n old) }) =
    moved_named n (record f { result = d }) h (f.position + 1) m ∙ ap (λ (v : Value). next (record (frame_of n f) { result = v })) number in
    λ i. Goes (world i) (frame i)

-- ---- arrays that are filled

module _ (n : Names) (f : NamedFrame) (on : Value) (kind : Text) (items : List Datum) (ns : List ℕ) (w : World) where
  by_room : (b : Bool) → nat_lt (length items) (length ns) ≡ b → fills (Some (Items kind (values_of n items))) w f on ns ≡ elim b as (λ b. Effect) [ true ↦ Faults out_of_bounds | false ↦ Goes (put_thing w on (Items kind (fill kind ns (values_of n items)))) (next f) ]
  by_room b e = ap (λ (c : Bool). elim c as (λ c. Effect) [ true ↦ Faults out_of_bounds | false ↦ Goes (put_thing w on (Items kind (fill kind ns (values_of n items)))) (next f) ])
      (ap (λ (k : ℕ). nat_lt k (length ns)) (length-map items (value_of n)) ∙ e)

  pub fills_short : nat_lt (length items) (length ns) ≡ true → Faults out_of_bounds ≡ fills (Some (Items kind (values_of n items))) w f on ns
  fills_short e = sym (by_room true e)

  pub fills_whole : nat_lt (length items) (length ns) ≡ false → Goes (put_thing w on (Items kind (fill kind ns (values_of n items)))) (next f) ≡ fills (Some (Items kind (values_of n items))) w f on ns
  fills_whole e = sym (by_room false e)

pub refilled : (n : Names) (old new : OwnWorld) (d : Datum) (kind : Kind) (items : List Datum) (i : Item) (ns : List ℕ) (f : NamedFrame) → shape_at (spots_of old) d ≡ Some (Array kind items) → i ≡ item_of_type (n.kind kind)
    → nat_lt (length items) (length ns) ≡ false → IsHeap old new (reshape_at (fill_shape i ns) (spots_of old) d) → Goes (world_of n new) (next f) ≡ fills (Some (Items (n.kind kind) (values_of n items))) (world_of n old) f (value_of n d) ns
refilled n old new d kind items i ns f s e lacks h =
    let world : world_of n new ≡ put_thing (world_of n old) (value_of n d) (Items (n.kind kind) (fill (n.kind kind) ns (values_of n items))) =
    changed_named n old new (fill_shape i ns) d kind items (fill_in i ns items) s refl h
    ∙ ap (λ (vs : List Value). put_thing (world_of n old) (value_of n d) (Items (n.kind kind) vs)) (ap (λ (j : Item). values_of n (fill_in j ns items)) e ∙ fill_named n (n.kind kind) ns items (not_less (length items) (length ns) lacks)) in
    ap (λ (w : World). Goes w (next f)) world ∙ fills_whole n f (value_of n d) (n.kind kind) items ns (world_of n old) lacks

-- ---- items that are written

pub stored_at : (n : Names) (old new : OwnWorld) (d x : Datum) (kind : Kind) (items : List Datum) (place : ℕ) → shape_at (spots_of old) d ≡ Some (Array kind items) → IsHeap old new (reshape_at (put_shape place x) (spots_of old) d)
    → world_of n new ≡ put_thing (world_of n old) (value_of n d) (Items (n.kind kind) (slice_set (values_of n items) place (value_of n x)))
stored_at n old new d x kind items place s h =
    changed_named n old new (put_shape place x) d kind items (slice_set items place x) s refl h
    ∙ ap (λ (vs : List Value). put_thing (world_of n old) (value_of n d) (Items (n.kind kind) vs)) (map-set (value_of n) items place x)

-- ---- items that are read

pub item_placed : (ds : List Datum) (z : ℤ) (i : ℕ) → Some i ≡ place_in z → slice_get ds i ≡ item_in ds z
item_placed ds (pos j) i e = let same : i ≡ j = cc in ap (slice_get ds) same
item_placed ds (negsuc j) i e = absurd (cc)

pub item_missed : (ds : List Datum) (z : ℤ) → None ≡ place_in z → None ≡ item_in ds z
item_missed ds (pos j) e = absurd (cc)
item_missed ds (negsuc j) e = refl

pub within_placed : (size : ℕ) (z : ℤ) (i : ℕ) → Some i ≡ place_in z → i < size → Some i ≡ place_below size z
within_placed size (negsuc j) i e h = absurd (cc)
within_placed size (pos j) i e h =
    let same : i ≡ j = cc in
    ap (λ (k : ℕ). Some k) same ∙ sym (ap (λ (b : Bool). elim b as (λ b. Option ℕ) [ true ↦ Some j | false ↦ None ]) (lt-ltb j size (subst (λ (k : ℕ). k < size) same h)))

pub within_past : (size : ℕ) (z : ℤ) (i : ℕ) → Some i ≡ place_in z → size ≤ i → None ≡ place_below size z
within_past size (negsuc j) i e h = absurd (cc)
within_past size (pos j) i e h =
    let same : i ≡ j = cc in
    let past : nat_lt j size ≡ false = grind (arith) in
    sym (ap (λ (b : Bool). elim b as (λ b. Option ℕ) [ true ↦ Some j | false ↦ None ]) past)

pub within_missed : (size : ℕ) (z : ℤ) → None ≡ place_in z → None ≡ place_below size z
within_missed size (pos j) e = absurd (cc)
within_missed size (negsuc j) e = refl

module _ (n : Names) (w : OwnWorld) (d : Datum) (i : Item) (f : NamedFrame) (to : ℕ) (z : ℤ) where
  pub got : (items : List Datum) → Some items ≡ contents_of (shape_at (spots_of w) d)
      → reads_item i (option_map (value_of n) (item_in items z)) (world_of n w) f to ≡ unless_null (value_of n d) (array_get i (thing_at (world_of n w) (value_of n d)) (world_of n w) f to z)
  got items e =
      let array = with_contents (shape_at (spots_of w) d) items (sym e) in
      ap (λ (o : Option Value). reads_item i o (world_of n w) f to) (item_named n items z)
      ∙ to_array n w d (λ (t : Option Thing). array_get i t (world_of n w) f to z) array.0 items array.1

  pub not_got : None ≡ contents_of (shape_at (spots_of w) d) → unless_null (value_of n d) Stuck ≡ unless_null (value_of n d) (array_get i (thing_at (world_of n w) (value_of n d)) (world_of n w) f to z)
  not_got e = to_other n w d (λ (t : Option Thing). array_get i t (world_of n w) f to z) refl (λ c fs. refl) (sym e)

-- ---- forms

pub made_by : (z : ℤ) (kind : Text) (w : World) (f : NamedFrame) (to : ℕ) → new_array_of z (item_of kind) w f to ≡ new_array z kind w f to
made_by (pos k) kind w f to = refl
made_by (negsuc k) kind w f to = refl

-- the size of a new array
as_placed : (x : ℕ) → x < 2 ^ 32 → (i : ℕ) → Some i ≡ place_in (cast_signed w32 x) → cast_signed w32 x ≡ pos x
as_placed x h i e = by_test (cases_lt x 2147483648)
  where
    by_test : (x < 2147483648) ⊎ (2147483648 ≤ x) → cast_signed w32 x ≡ pos x
    by_test (inl l) = let f : cast_signed w32 x ≡ pos x = omega (arith, ints) in f
    by_test (inr g) = let f = place_high x g h in absurd (cc)

pub made_there : (x : ℕ) → x < 2 ^ 32 → (i : ℕ) → Some i ≡ place_in (cast_signed w32 x) → (item : Text) (w : World) (f : NamedFrame) (to : ℕ) → adds_zeros item x w f to ≡ new_array_of (cast_signed w32 x) item w f to
made_there x h i e item w f to = ap (λ (z : ℤ). new_array_of z item w f to) (sym (as_placed x h i e))

pub made_nowhere : (z : ℤ) (item : Text) (w : World) (f : NamedFrame) (to : ℕ) → None ≡ place_in z → Faults negative_size ≡ new_array_of z item w f to
made_nowhere (pos k) item w f to e = absurd (cc)
made_nowhere (negsuc k) item w f to e = refl

-- ---- what goes on may have changed the world

pub went : (e : OwnEffect) (old new : OwnWorld) → e ≡ own.Goes → LeavesWorld e old new
went e old new h = subst (λ (x : OwnEffect). LeavesWorld x old new) (sym h) (goes_world old new)
