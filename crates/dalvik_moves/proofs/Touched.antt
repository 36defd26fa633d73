-- What is shown of fields and arrays that the framework reads.
use Rattle.std.proofs.Common.{◌≡◌, ℕ, zero, suc, ◌+◌, ◌<◌, ◌≤◌, ◌⊎◌, inl, inr, Bool, true, false, List, [], ◌∷◌, length, map, min, arith, ap, refl, sym, subst, ◌∙◌, length-append, lt-ltb, ltb-true}
use Rattle.std.specs.Prelude.{◌^◌, nat_lt, slice_get, Option, Some, None}
use Rattle.std.specs.Option.{option_map}
use Rattle.program_model.specs.declared.pass.Outside.{Outside}
use Rattle.dalvik_defs.specs.Gives.{gets}
use Rattle.dalvik_defs.specs.Legal.{is_exposed}
use Rattle.dalvik_defs.specs.Moves.{array_get, array_length, measures_thing, reads_item, shows_value}
use Rattle.dalvik_defs.specs.Names.{Text}
use Rattle.dalvik_defs.specs.State.{Classes, Ended, Exposed, Next, On, Thing, World, quiet, thing_at}
use Rattle.dalvik_defs.specs.declared.events.Event.TheVariants as event
use Rattle.dalvik_defs.specs.declared.events.Shown.{Shown}
use Rattle.dalvik_defs.specs.declared.script.Given.{Given}
use Rattle.dalvik_defs.specs.declared.script.Given.TheVariants as given
use Rattle.dalvik_defs.specs.declared.script.Move.{Move}
use Rattle.dalvik_defs.specs.declared.state.Value.{Value}
use Rattle.dalvik_defs.specs.declared.state.Value.TheVariants as value
use Rattle.dalvik_defs.specs.declared.state.Waiting.{Waiting}
use Rattle.dalvik_lookups.specs.Playing.{given_of, IsGift}
use Rattle.dalvik_lookups.specs.Views.{type_text, AreTypes}
use Rattle.dalvik_lookups.specs.declared.lookups.Lookups.{Lookups}
use Rattle.dalvik_lookups.specs.declared.memo.Memo.{Memo}
use Rattle.dalvik_lookups.specs.declared.plays.Gift.{Gift}
use Rattle.dalvik_lookups.specs.declared.plays.Gift.TheVariants as gift
use Rattle.dalvik_lookups.specs.declared.types.Kind.{Kind}
use Rattle.dalvik_state.specs.declared.datum.Datum.{Datum}
use Rattle.dalvik_state.specs.declared.datum.Datum.TheVariants as datum
use Rattle.dalvik_state.specs.declared.gifts.Gifts.{Gifts}
use Rattle.dalvik_state.specs.declared.state.State.{State}
use Rattle.dalvik_state.specs.declared.world.Exposed.{Exposed as OwnExposed}
use Rattle.dalvik_state.specs.declared.world.World.{World as OwnWorld}
use Rattle.dalvik_state.specs.Drafts.{gift_spots, given_world}
use Rattle.dalvik_state.specs.Effects.{plain}
use Rattle.dalvik_state.specs.Runs.{classes_in, IsEvent, IsUndone}
use Rattle.dalvik_state.specs.Frames.{cell}
use Rattle.dalvik_state.specs.States.{IsRunning, IsSound}
use Rattle.dalvik_state.specs.Views.{exposed_of, names_in, thing_of, value_of, values_of, world_of, AreFine, IsFine, IsFineShape, Names}
use Rattle.dalvik_state.specs.Worlds.{new_spot, shape_at, spots_of, Array, IsShort, IsShortShape, Plain, Shape, Spot}
use Rattle.dalvik_lookups.proofs.Descriptors.{known_at}
use Rattle.dalvik_lookups.proofs.Interned.{got_short}
use Rattle.dalvik_state.proofs.Places.{none_past, seen_long}
use Rattle.dalvik_state.proofs.Things.{thing_named}
use Rattle.dalvik_steps.specs.Entries.{AreGivenFine, ShowsGiven}
use Rattle.dalvik_steps.specs.Turns.{IsAsItWas}
use Rattle.dalvik_steps.proofs.Undone.{undone_world}
use Rattle.dalvik_moves.specs.Moving.{exposed_in, freed_in, item_in, length_in, IsDone, IsMoving}
use Rattle.dalvik_moves.proofs.Moved.{event_as, world_done}
use Rattle.dalvik_moves.proofs.Taken.{nothing_spots}

-- ---- an answer

pub gifts_more : (w : OwnWorld) (g : Gifts) → length (spots_of w) ≤ length (gift_spots w g)
gifts_more w g = let e = length-append (spots_of w) (map new_spot g.things.items) in omega (arith, e)

-- a value is shown as an answer, and the move is done
pub answer_shown : (l : Lookups) (o : Outside) (m : Memo) (script : List Move) (steps : ℕ) (s : State) (owes : Option Kind) (first : Move) (rest : List Move) (g : Gifts) (kind : Text) (d : Datum) (w : OwnWorld) (new : State) (shown : Option Shown)
    → IsMoving l o m script steps s owes first rest → ShowsGiven l g kind (Some d) s.world w shown → IsDone (record s { world = w }) new
    → IsEvent l steps script new (option_map (λ (x : Shown). event.Answer x) shown) (shows_value (given_world (names_in l) s.world g) (classes_in l s) kind (Some (value_of (names_in l) d)) (freed_in l script s) rest)
answer_shown l o m script steps s owes first rest g kind d w new shown h shows done =
    let more = gifts_more s.world g in
    let count = shows.spots in
    event_as l steps script new (option_map (λ (x : Shown). event.Answer x) shown)
    (On (world_of (names_in l) w) (classes_in l s) (freed_in l script s) rest, option_map (λ (x : Shown). event.Answer x) shown)
    (shows_value (given_world (names_in l) s.world g) (classes_in l s) kind (Some (value_of (names_in l) d)) (freed_in l script s) rest)
    (ap (λ (p : World × Option Shown). (On p.0 (classes_in l s) (freed_in l script s) rest, option_map (λ (x : Shown). event.Answer x) p.1)) (sym shows.shown))
    (world_done l o m script steps s owes first rest w new (option_map (λ (x : Shown). event.Answer x) shown) h shows.sound (omega (arith, more, count)) shows.locks done)

-- ---- arrays

abbrev pub number_of : Datum → ℕ
number_of (datum.Object i) = i
number_of d = 0

shaped : (n : Names) (w : OwnWorld) (j i : ℕ) (o : Option Spot) → j ≡ i
    → option_map (λ (s : Spot). thing_of n w.fields.entries j s.shape) o ≡ option_map (thing_of n w.fields.entries i) (option_map (λ (s : Spot). s.shape) o)
shaped n w j i None e = refl
shaped n w j i (Some s) e = ap (λ (k : ℕ). Some (thing_of n w.fields.entries k s.shape)) e

-- what a value refers to, by numbers and by names
pub thing_here : (n : Names) (w : OwnWorld) (d : Datum) → thing_at (world_of n w) (value_of n d) ≡ option_map (thing_of n w.fields.entries (number_of d)) (shape_at (spots_of w) d)
thing_here n w (datum.Object i) = let e : 0 + i ≡ i = omega arith in thing_named n w.fields.entries 0 (spots_of w) i ∙ shaped n w (0 + i) i (slice_get (spots_of w) i) e
thing_here n w (datum.Word x) = refl
thing_here n w (datum.Low x) = refl
thing_here n w (datum.High x) = refl
thing_here n w (datum.Literal x) = refl
thing_here n w (datum.Class x) = refl

exposed_get : (es : List OwnExposed) (i : ℕ) → slice_get (map exposed_of es) i ≡ option_map exposed_of (slice_get es i)
exposed_get [] i = refl
exposed_get (e ∷ es) zero = refl
exposed_get (e ∷ es) (suc i) = exposed_get es i

-- the exposed object of a value that names one by its place
pub record IsExposedAt (n : Names) (w : OwnWorld) (g : Given) (d : Datum) : Type 0 where
  pub there : is_exposed (world_of n w) g ≡ true
  pub value : (gets (world_of n w) g).1 ≡ value_of n d

-- a value names an exposed object, or no move on an array is legal
abbrev pub Exposes : Names → OwnWorld → Given → Datum → Type 0
Exposes n w g d = IsExposedAt n w g d ⊎ ((is_exposed (world_of n w) g ≡ false) × (d ≡ datum.Word 0))

none_at : (es : List OwnExposed) (i : ℕ) → slice_get es i ≡ None → nat_lt i (length (map exposed_of es)) ≡ false
none_at es i e = by (nat_lt i (length (map exposed_of es))) refl
  where
    by : (b : Bool) → nat_lt i (length (map exposed_of es)) ≡ b → b ≡ false
    by true h = absurd (let low = ltb-true i (length (map exposed_of es)) h in let size = seen_long es in let past = none_past es i e in omega (arith, low, size, past))
    by false h = refl

some_at : (es : List OwnExposed) (i : ℕ) (x : OwnExposed) → slice_get es i ≡ Some x → nat_lt i (length (map exposed_of es)) ≡ true
some_at es i x e = lt-ltb i (length (map exposed_of es)) (let low = got_short es i x e in let size = seen_long es in omega (arith, low, size))

exposed_by : (n : Names) (w : OwnWorld) (i : ℕ) (o : Option OwnExposed) → slice_get w.exposed.items i ≡ o → Exposes n w (given.Exposed i) (elim o as (λ o. Datum) [ Some e ↦ datum.Object e.number | None ↦ datum.Word 0 ])
exposed_by n w i None e = inr (none_at w.exposed.items i e, refl)
exposed_by n w i (Some x) e = inl (record {
  there = some_at w.exposed.items i x e;
  value = ap (λ (o : Option Exposed). elim o as (λ o. Value) [ Some y ↦ value.Object y.number | None ↦ value.Word 0 ]) (exposed_get w.exposed.items i ∙ ap (λ (o : Option OwnExposed). option_map exposed_of o) e);
})

pub exposes : (l : Lookups) (w : OwnWorld) (g : Given) (on : Gift) → IsGift l.types l.texts g on → Exposes (names_in l) w g (exposed_in w on)
exposes l w g on h = subst (λ (x : Given). Exposes (names_in l) w x (exposed_in w on)) h.is (by on)
  where
    by : (on : Gift) → Exposes (names_in l) w (given_of l.types l.texts on) (exposed_in w on)
    by (gift.Exposed i) = exposed_by (names_in l) w i (slice_get w.exposed.items i) refl
    by gift.Null = inr (refl, refl)
    by (gift.Word x) = inr (refl, refl)
    by (gift.Wide x) = inr (refl, refl)
    by (gift.New k) = inr (refl, refl)
    by (gift.Array k size) = inr (refl, refl)
    by (gift.Literal x) = inr (refl, refl)
    by (gift.Class x) = inr (refl, refl)

module _ (l : Lookups) (w : OwnWorld) (classes : Classes) (g : Given) (place : ℕ) (stack : List Waiting) (rest : List Move) where
  abbrev n : Names
  n = names_in l

  abbrev if_exposed : Bool → Next → Next
  if_exposed b to = elim b as (λ b. Next) [ true ↦ to | false ↦ quiet Ended ]

  -- where an array is read that there is, its item is shown
  abbrev pub ReadsAs : Option (Kind × Option Datum) → Type 0
  ReadsAs None = array_get (world_of n w) classes g place stack rest ≡ quiet Ended
  ReadsAs (Some x) = array_get (world_of n w) classes g place stack rest ≡ shows_value (world_of n w) classes (type_text l.types x.0) (option_map (value_of n) x.1) stack rest

  item_named : (items : List Datum) (i : ℕ) → slice_get (values_of n items) i ≡ option_map (value_of n) (slice_get items i)
  item_named [] i = refl
  item_named (d ∷ ds) zero = refl
  item_named (d ∷ ds) (suc i) = item_named ds i

  reads_by : (d : Datum) → IsExposedAt n w g d → (o : Option Shape) → shape_at (spots_of w) d ≡ o → ReadsAs (item_in place o)
  reads_by d x o e = by o (ap (λ (b : Bool). if_exposed b (reads_item (world_of n w) classes (thing_at (world_of n w) (gets (world_of n w) g).1) place stack rest)) x.there
      ∙ ap (λ (v : Value). reads_item (world_of n w) classes (thing_at (world_of n w) v) place stack rest) x.value
      ∙ ap (λ (t : Option Thing). reads_item (world_of n w) classes t place stack rest) (thing_here n w d ∙ ap (λ (s : Option Shape). option_map (thing_of n w.fields.entries (number_of d)) s) e))
    where
      by : (o : Option Shape) → array_get (world_of n w) classes g place stack rest ≡ reads_item (world_of n w) classes (option_map (thing_of n w.fields.entries (number_of d)) o) place stack rest → ReadsAs (item_in place o)
      by None h = h
      by (Some (Plain kind)) h = h
      by (Some (Array kind items)) h = h ∙ ap (λ (v : Option Value). shows_value (world_of n w) classes (type_text l.types kind) v stack rest) (item_named items place)

  pub array_read : (on : Gift) → IsGift l.types l.texts g on → (o : Option (Kind × Option Datum)) → o ≡ item_in place (shape_at (spots_of w) (exposed_in w on)) → ReadsAs o
  array_read on h o e = by (exposes l w g on h)
    where
      by : Exposes n w g (exposed_in w on) → ReadsAs o
      by (inl x) = subst ReadsAs (sym e) (reads_by (exposed_in w on) x (shape_at (spots_of w) (exposed_in w on)) refl)
      by (inr x) = subst ReadsAs (sym (e ∙ ap (λ (d : Datum). item_in place (shape_at (spots_of w) d)) x.1)) (ap (λ (b : Bool). if_exposed b (reads_item (world_of n w) classes (thing_at (world_of n w) (gets (world_of n w) g).1) place stack rest)) x.0)

  -- where an array is measured that there is, its length is shown
  abbrev pub MeasuresAs : Option Datum → Type 0
  MeasuresAs o = array_length (world_of n w) classes g stack rest ≡ shows_value (world_of n w) classes (73 ∷ []) (option_map (value_of n) o) stack rest

  measures_by : (d : Datum) → IsExposedAt n w g d → IsShort (spots_of w) → (o : Option Shape) → shape_at (spots_of w) d ≡ o → MeasuresAs (length_in o)
  measures_by d x short o e = by o e (ap (λ (b : Bool). if_exposed b (measures_thing (world_of n w) classes (thing_at (world_of n w) (gets (world_of n w) g).1) stack rest)) x.there
      ∙ ap (λ (v : Value). measures_thing (world_of n w) classes (thing_at (world_of n w) v) stack rest) x.value
      ∙ ap (λ (t : Option Thing). measures_thing (world_of n w) classes t stack rest) (thing_here n w d ∙ ap (λ (s : Option Shape). option_map (thing_of n w.fields.entries (number_of d)) s) e))
    where
      short_at : (d : Datum) (kind : Kind) (items : List Datum) → shape_at (spots_of w) d ≡ Some (Array kind items) → length items < 2 ^ 32
      short_at (datum.Object i) kind items e = by_spot (slice_get (spots_of w) i) refl e
        where
          by_spot : (o : Option Spot) → slice_get (spots_of w) i ≡ o → option_map (λ (s : Spot). s.shape) o ≡ Some (Array kind items) → length items < 2 ^ 32
          by_spot None f e = absurd (cc)
          by_spot (Some s) f e = (let same : s.shape ≡ Array kind items = cc in let low = short.at i s f in by_shape s.shape same low)
            where
              by_shape : (x : Shape) → x ≡ Array kind items → IsShortShape x → length items < 2 ^ 32
              by_shape x same low = subst IsShortShape same low
      short_at (datum.Word x) kind items e = absurd (cc)
      short_at (datum.Low x) kind items e = absurd (cc)
      short_at (datum.High x) kind items e = absurd (cc)
      short_at (datum.Literal x) kind items e = absurd (cc)
      short_at (datum.Class x) kind items e = absurd (cc)

      long : (ds : List Datum) → length (values_of n ds) ≡ length ds
      long [] = refl
      long (d ∷ ds) = ap suc (long ds)

      by : (o : Option Shape) → shape_at (spots_of w) d ≡ o → array_length (world_of n w) classes g stack rest ≡ measures_thing (world_of n w) classes (option_map (thing_of n w.fields.entries (number_of d)) o) stack rest → MeasuresAs (length_in o)
      by None e h = h
      by (Some (Plain kind)) e h = h
      by (Some (Array kind items)) e h =
          let low = short_at d kind items e in
          let is : length items ≡ min (length items) 4294967295 = omega (arith, low) in
          h ∙ ap (λ (k : ℕ). shows_value (world_of n w) classes (73 ∷ []) (Some (value.Word k)) stack rest) (long items ∙ is)

  pub array_measured : (on : Gift) → IsGift l.types l.texts g on → IsShort (spots_of w) → (o : Option Datum) → o ≡ length_in (shape_at (spots_of w) (exposed_in w on)) → MeasuresAs o
  array_measured on h short o e = by (exposes l w g on h)
    where
      by : Exposes n w g (exposed_in w on) → MeasuresAs o
      by (inl x) = subst MeasuresAs (sym e) (measures_by (exposed_in w on) x short (shape_at (spots_of w) (exposed_in w on)) refl)
      by (inr x) = subst MeasuresAs (sym (e ∙ ap (λ (d : Datum). length_in (shape_at (spots_of w) d)) x.1)) (ap (λ (b : Bool). if_exposed b (measures_thing (world_of n w) classes (thing_at (world_of n w) (gets (world_of n w) g).1) stack rest)) x.0)

-- ---- want of memory

pub world_undone : (l : Lookups) (steps : ℕ) (s : State) (w : OwnWorld) → IsRunning l steps s → s.ended ≡ false → IsAsItWas s.world w → IsUndone l steps s (record s { world = w })
world_undone l steps s w r e h = undone_world l steps s w h r e

-- the type of a length
pub int_text : (l : Lookups) → AreTypes l.types → type_text l.types (plain 20) ≡ 73 ∷ []
int_text l t = known_at l.types t 20 (73 ∷ []) refl

-- ---- what is read is there

cell_is : (items : List Datum) (r : ℕ) (d : Datum) → slice_get items r ≡ Some d → cell items r ≡ d
cell_is [] r d e = absurd (cc)
cell_is (x ∷ xs) zero d e = cc
cell_is (x ∷ xs) (suc r) d e = cell_is xs r d e

abbrev item_among : Option (Kind × Option Datum) → Option Datum
item_among None = None
item_among (Some x) = x.1

pub item_fine : (l : Lookups) (w : OwnWorld) (g : Gifts) (place : ℕ) (array : Datum) (kind : Kind) (v : Option Datum) → IsSound l w → g.things.items ≡ [] → Some (kind, v) ≡ item_in place (shape_at (spots_of w) array) → AreGivenFine l w g v
item_fine l w g place (datum.Object i) kind v s none e = by_spot (slice_get (spots_of w) i) refl e
  where
    by_item : (items : List Datum) (o : Option Datum) → slice_get items place ≡ o → AreFine (names_in l) (length (spots_of w)) items → AreGivenFine l w g o
    by_item items None f a = tt
    by_item items (Some d) f a = subst (λ (ss : List Spot). IsFine (names_in l) (length ss) d) (sym (nothing_spots w g none)) (subst (IsFine (names_in l) (length (spots_of w))) (cell_is items place d f) (a.at place))

    by_shape : (x : Shape) → IsFineShape (names_in l) (length (spots_of w)) x → Some (kind, v) ≡ item_in place (Some x) → AreGivenFine l w g v
    by_shape (Plain k) a e = absurd (cc)
    by_shape (Array k items) a e = (let same : v ≡ slice_get items place = ap item_among e in subst (AreGivenFine l w g) (sym same) (by_item items (slice_get items place) refl a))

    by_spot : (o : Option Spot) → slice_get (spots_of w) i ≡ o → Some (kind, v) ≡ item_in place (option_map (λ (x : Spot). x.shape) o) → AreGivenFine l w g v
    by_spot None f e = absurd (cc)
    by_spot (Some x) f e = by_shape x.shape (s.fine.arrays.at i x f) e
item_fine l w g place (datum.Word x) kind v s none e = absurd (cc)
item_fine l w g place (datum.Low x) kind v s none e = absurd (cc)
item_fine l w g place (datum.High x) kind v s none e = absurd (cc)
item_fine l w g place (datum.Literal x) kind v s none e = absurd (cc)
item_fine l w g place (datum.Class x) kind v s none e = absurd (cc)

pub length_fine : (l : Lookups) (w : OwnWorld) (g : Gifts) (o : Option Shape) (d : Option Datum) → d ≡ length_in o → AreGivenFine l w g d
length_fine l w g None d e = subst (AreGivenFine l w g) (sym e) tt
length_fine l w g (Some (Plain kind)) d e = subst (AreGivenFine l w g) (sym e) tt
length_fine l w g (Some (Array kind items)) d e = subst (AreGivenFine l w g) (sym e) tt
