-- Values that a move takes, and which of them may be given.
use Rattle.std.proofs.Common.{◌≡◌, ℕ, zero, suc, ◌+◌, ◌-◌, ◌<◌, ◌≤◌, ◌^◌, inl, inr, Bool, true, false, List, [], ◌∷◌, ◌++◌, length, map, replicate, nat_lt, is_none, is_some, arith, ap, refl, sym, subst, ◌∙◌, length-append, lt-ltb, ltb-true}
use Rattle.std.specs.Prelude.{Option, Some, None, ◌&&◌, ◌||◌, not, slice_get, option_and_then}
use Rattle.std.specs.Option.{option_map}
use Rattle.std.specs.List.{list_any}
use Rattle.std.proofs.lemmas.Bool.{cases_lt}
use Rattle.std.proofs.lemmas.List.{length-replicate}
use Rattle.program_model.specs.declared.pass.Outside.{Outside}
use Rattle.program_model.specs.declared.program.Class.{Class}
use Rattle.program_model.specs.declared.program.Program.{Program}
use Rattle.dalvik_lookups.specs.declared.lookups.Lookups.{Lookups}
use Rattle.dalvik_lookups.specs.declared.types.Kind.{Kind}
use Rattle.dalvik_lookups.specs.Facing.{run_face}
use Rattle.dalvik_lookups.specs.declared.plays.Gift.{Gift}
use Rattle.dalvik_lookups.specs.declared.plays.Gift.TheVariants as gift
use Rattle.dalvik_lookups.specs.Playing.{given_of, AreBoth, IsGift, Stands}
use Rattle.dalvik_lookups.specs.Reached.{has_descriptor}
use Rattle.dalvik_lookups.specs.Tables.{place_named, IsRight}
use Rattle.dalvik_lookups.specs.Views.{name_at, texts_of, type_text, IsKind}
use Rattle.dalvik_lookups.proofs.Calls.{class_there}
use Rattle.dalvik_lookups.proofs.Facing.{right_face}
use Rattle.dalvik_lookups.proofs.Interned.{got_last, got_short}
use Rattle.dalvik_defs.specs.Face.{is_defined}
use Rattle.dalvik_defs.specs.Gives.{gets, may_give}
use Rattle.dalvik_defs.specs.Names.{Text, base_of, is_array, is_class_type, is_wide, is_word, text_eq}
use Rattle.dalvik_defs.specs.Naming.{text_at, type_at}
use Rattle.dalvik_defs.specs.Outer.{outer_of}
use Rattle.dalvik_defs.specs.Show.{with_given}
use Rattle.dalvik_defs.specs.State.{Items, World, next_object, zero_of}
use Rattle.dalvik_defs.specs.declared.state.Value.{Value}
use Rattle.dalvik_defs.specs.declared.script.Given.{Given}
use Rattle.dalvik_defs.specs.declared.script.Given.TheVariants as given
use Rattle.dalvik_state.specs.declared.datum.Datum.{Datum}
use Rattle.dalvik_state.specs.declared.datum.Datum.TheVariants as datum
use Rattle.dalvik_state.specs.declared.gifts.Gifts.{Gifts}
use Rattle.dalvik_state.specs.declared.gifts.Taken.{Taken}
use Rattle.dalvik_state.specs.declared.world.Exposed.{Exposed}
use Rattle.dalvik_state.specs.declared.world.Thing.{Thing as OwnThing}
use Rattle.dalvik_state.specs.declared.world.Thing.TheVariants as thing
use Rattle.dalvik_state.specs.declared.world.World.{World as OwnWorld}
use Rattle.dalvik_state.specs.Drafts.{gift_spots, given_shape, given_world}
use Rattle.dalvik_state.specs.Frames.{zero_in}
use Rattle.dalvik_state.specs.Giving.{kept_or_free, own_taken, IsGiven, IsGivenFine, Takes, TakesMaybe}
use Rattle.dalvik_state.specs.States.{kind_within, IsFineKind}
use Rattle.dalvik_state.specs.Views.{IsFineShape, names_in, value_of}
use Rattle.dalvik_state.specs.Worlds.{Array, Shape, Spot, new_spot, shape_of, spots_of, IsShortShape}
use Rattle.dalvik_state.proofs.Fine.{fine_alike, fine_zero}
use Rattle.dalvik_state.proofs.Gifted.{next_given, place_before, place_behind, place_past, places_count, spots_count, world_more}
use Rattle.dalvik_state.proofs.Places.{none_past}
use Rattle.dalvik_state.proofs.Storing.{zeros_named}

-- ---- objects of a move

new_more : (ts us : List OwnThing) → map new_spot (ts ++ us) ≡ map new_spot ts ++ map new_spot us
new_more [] us = refl
new_more (t ∷ ts) us = ap (λ (ss : List Spot). new_spot t ∷ ss) (new_more ts us)

behind : (ss ts us : List Spot) → ss ++ (ts ++ us) ≡ (ss ++ ts) ++ us
behind [] ts us = refl
behind (s ∷ ss) ts us = ap (λ (rest : List Spot). s ∷ rest) (behind ss ts us)

gift_more : (w : OwnWorld) (g h : Gifts) (t : OwnThing) → h.things.items ≡ g.things.items ++ t ∷ [] → gift_spots w h ≡ gift_spots w g ++ new_spot t ∷ []
gift_more w g h t e =
    ap (λ (ts : List OwnThing). spots_of w ++ map new_spot ts) e
    ∙ ap (λ (ss : List Spot). spots_of w ++ ss) (new_more g.things.items (t ∷ []))
    ∙ behind (spots_of w) (map new_spot g.things.items) (new_spot t ∷ [])

-- what holds of each and of one more holds of all
each_more : (P : Shape → Type 0) (spots more : List Spot) (s : Spot) → more ≡ spots ++ s ∷ [] → ((i : ℕ) (x : Spot) → slice_get spots i ≡ Some x → P x.shape) → P s.shape → (i : ℕ) (x : Spot) → slice_get more i ≡ Some x → P x.shape
each_more P spots more s e each one i x at = elim (got_last spots s x i (ap (λ (ss : List Spot). slice_get ss i) (sym e) ∙ at)) [
  | inl old ↦ each i x old
  | inr new ↦ subst (λ (y : Spot). P y.shape) (sym new.1) one
]

module _ (l : Lookups) (o : Outside) (w : OwnWorld) (g : Gifts) (h : IsGiven l w g) where
  abbrev before : World
  before = given_world (names_in l) w g

  -- one object more
  given_more : (k : Gifts) (t : OwnThing) → k.things.items ≡ g.things.items ++ t ∷ [] → IsFineKind l (kind_within (shape_of t)) → IsShortShape (shape_of t) → IsFineShape (names_in l) 0 (shape_of t) → IsGiven l w k
  given_more k t e fine short items = record {
    sound = h.sound;
    kinds = record { at = each_more (λ (s : Shape). IsFineKind l (kind_within s)) (gift_spots w g) (gift_spots w k) (new_spot t) (gift_more w g k t e) h.kinds.at fine };
    short = record { at = each_more IsShortShape (gift_spots w g) (gift_spots w k) (new_spot t) (gift_more w g k t e) h.short.at short };
    fine = record { at = each_more (IsFineShape (names_in l) 0) (map new_spot g.things.items) (map new_spot k.things.items) (new_spot t) (ap (map new_spot) e ∙ new_more g.things.items (t ∷ [])) h.fine.at items };
  }

  -- nothing new is taken
  pub takes_same : (what : Given) (t : Taken) → gets before what ≡ (before, value_of (names_in l) t.datum) → t.allowed ≡ may_give (run_face l) (outer_of l.program.now o) before what → IsGivenFine l w g t.datum → Takes l o w g g what t
  takes_same what t e a f = record { got = e; allowed = a; given = h; fine = f; more = omega arith }

  pub takes_more : (k : Gifts) (made : OwnThing) (what : Given) (t : Taken) → k.things.items ≡ g.things.items ++ made ∷ [] → t.datum ≡ datum.Object (length (spots_of w) + length g.things.items)
      → gets before what ≡ (with_given before (given_shape (names_in l) (shape_of made)), next_object before) → t.allowed ≡ may_give (run_face l) (outer_of l.program.now o) before what
      → IsFineKind l (kind_within (shape_of made)) → IsShortShape (shape_of made) → IsFineShape (names_in l) 0 (shape_of made) → Takes l o w g k what t
  takes_more k made what t e d got a fine short items =
      let many = spots_count (names_in l) w k in
      let one = grown e in
      record {
        got = got ∙ (λ i. (sym (world_more (names_in l) w g k made e) i, (next_given (names_in l) w g ∙ ap (value_of (names_in l)) (sym d)) i));
        allowed = a;
        given = given_more k made e fine short items;
        fine = subst (IsGivenFine l w k) (sym d) (omega (arith, many, one));
        more = omega (arith, one);
      }
    where
      grown : k.things.items ≡ g.things.items ++ made ∷ [] → length k.things.items ≡ length g.things.items + 1
      grown f = ap length f ∙ length-append g.things.items (made ∷ [])

  -- ---- new objects and arrays

  abbrev next : Datum
  next = datum.Object (length (spots_of w) + length g.things.items)

  pub takes_new : (k : Gifts) (kind : Kind) (t : Taken) → k.things.items ≡ g.things.items ++ thing.Instance kind ∷ [] → t.datum ≡ next
      → t.allowed ≡ may_give (run_face l) (outer_of l.program.now o) before (given.New (type_text l.types kind)) → IsFineKind l kind → Takes l o w g k (given.New (type_text l.types kind)) t
  takes_new k kind t e d a fine = takes_more k (thing.Instance kind) (given.New (type_text l.types kind)) t e d refl a fine tt tt

  pub takes_array : (k : Gifts) (made : OwnThing) (item : Kind) (size : ℕ) (t : Taken) → shape_of made ≡ Array item (replicate size (zero_in (is_wide (type_text l.types item)))) → k.things.items ≡ g.things.items ++ made ∷ [] → t.datum ≡ next
      → t.allowed ≡ may_give (run_face l) (outer_of l.program.now o) before (given.Array (type_text l.types item) size) → IsFineKind l item → size < 2 ^ 32 → Takes l o w g k (given.Array (type_text l.types item) size) t
  takes_array k made item size t s e d a fine small =
      let text = type_text l.types item in
      let zero = zero_in (is_wide text) in
      let named : given_shape (names_in l) (shape_of made) ≡ Items text (replicate size (zero_of text)) = ap (given_shape (names_in l)) s ∙ ap (Items text) (zeros_named (names_in l) text size) in
      let long = length-replicate size zero in
      takes_more k made (given.Array text size) t e d (λ i. (with_given before (sym named i), next_object before)) a
      (subst (λ (x : Shape). IsFineKind l (kind_within x)) (sym s) fine)
      (subst IsShortShape (sym s) (omega (arith, long, small)))
      (subst (IsFineShape (names_in l) 0) (sym s) (fine_alike (names_in l) 0 size zero (fine_zero (names_in l) 0 (is_wide text))))

  -- ---- exposed objects

  pub takes_before : (i : ℕ) (e : Exposed) → slice_get w.exposed.items i ≡ Some e → Takes l o w g g (given.Exposed i) (record { datum = datum.Object e.number; allowed = true })
  takes_before i e at =
      let low = got_short w.exposed.items i e at in
      let all = places_count (names_in l) w g in
      let there = h.sound.placed.below i e at in
      let many = spots_count (names_in l) w g in
      takes_same (given.Exposed i) (record { datum = datum.Object e.number; allowed = true })
      (ap (λ (v : Value). (before, v)) (place_before (names_in l) w g i e at low))
      (sym (lt-ltb i (length before.exposed) (omega (arith, low, all))))
      (omega (arith, there, many))

  -- by the number of what stands there
  pub takes_seen : (i number : ℕ) → Some number ≡ option_map (λ (e : Exposed). e.number) (slice_get w.exposed.items i) → Takes l o w g g (given.Exposed i) (record { datum = datum.Object number; allowed = true })
  takes_seen i number e = by (slice_get w.exposed.items i) refl e
    where
      by : (q : Option Exposed) → slice_get w.exposed.items i ≡ q → Some number ≡ option_map (λ (e : Exposed). e.number) q → Takes l o w g g (given.Exposed i) (record { datum = datum.Object number; allowed = true })
      by None at f = absurd (cc)
      by (Some x) at f =
          let same : number ≡ x.number = cc in
          subst (λ (k : ℕ). Takes l o w g g (given.Exposed i) (record { datum = datum.Object k; allowed = true })) (sym same) (takes_before i x at)

  pub unseen : (i : ℕ) → None ≡ option_map (λ (e : Exposed). e.number) (slice_get w.exposed.items i) → slice_get w.exposed.items i ≡ None
  unseen i e = by (slice_get w.exposed.items i) e
    where
      by : (q : Option Exposed) → None ≡ option_map (λ (e : Exposed). e.number) q → q ≡ None
      by None f = refl
      by (Some x) f = absurd (cc)

  pub takes_own : (i : ℕ) → slice_get w.exposed.items i ≡ None → Takes l o w g g (given.Exposed i) (own_taken (length (spots_of w)) (length g.things.items) (i - length w.exposed.items))
  takes_own i none = by (nat_lt (i - length w.exposed.items) (length g.things.items)) refl
    where
      past_lt : (m n : ℕ) → n ≤ m → nat_lt m n ≡ false
      past_lt m n le = at (nat_lt m n) refl
        where
          at : (b : Bool) → nat_lt m n ≡ b → b ≡ false
          at true f = let low = ltb-true m n f in absurd (omega (arith, low, le))
          at false f = refl

      by : (b : Bool) → nat_lt (i - length w.exposed.items) (length g.things.items) ≡ b
          → Takes l o w g g (given.Exposed i) (elim b as (λ b. Taken) [ true ↦ record { datum = datum.Object (length (spots_of w) + (i - length w.exposed.items)); allowed = true } | false ↦ record { datum = datum.Word 0; allowed = false } ])
      by true e =
          let high = none_past w.exposed.items i none in
          let low = ltb-true (i - length w.exposed.items) (length g.things.items) e in
          let all = places_count (names_in l) w g in
          let many = spots_count (names_in l) w g in
          takes_same (given.Exposed i) (record { datum = datum.Object (length (spots_of w) + (i - length w.exposed.items)); allowed = true })
          (ap (λ (v : Value). (before, v)) (place_behind (names_in l) w g i high low))
          (sym (lt-ltb i (length before.exposed) (omega (arith, high, low, all))))
          (omega (arith, low, many))
      by false e =
          let high = none_past w.exposed.items i none in
          let all = places_count (names_in l) w g in
          elim (cases_lt (i - length w.exposed.items) (length g.things.items)) [
            | inl low ↦ absurd (let no : true ≡ false = sym (lt-ltb (i - length w.exposed.items) (length g.things.items) low) ∙ e in cc)
            | inr past ↦ takes_same (given.Exposed i) (record { datum = datum.Word 0; allowed = false })
                (ap (λ (v : Value). (before, v)) (place_past (names_in l) w g i (omega (arith, high, past))))
                (sym (past_lt i (length before.exposed) (omega (arith, high, past, all))))
                tt
          ]

-- ---- what may be given

abbrev some_of : Option ℕ → Bool
some_of o = is_some o

-- whether the program defines a type
pub free_named : (l : Lookups) → IsRight l → (t : Text) → is_none (place_named l.program.now t) ≡ not (is_defined (run_face l) t)
free_named l r t = by (place_named l.program.now t) refl ∙ ap not (sym (ap some_of ((right_face l r).flags t)))
  where
    by : (q : Option ℕ) → place_named l.program.now t ≡ q → is_none q ≡ not (some_of (option_map (λ (k : Class). k.flags.0) (option_and_then (slice_get l.program.now.classes) (place_named l.program.now t))))
    by None e = ap (λ (x : Option ℕ). not (some_of (option_map (λ (k : Class). k.flags.0) (option_and_then (slice_get l.program.now.classes) x)))) (sym e)
    by (Some c) e =
        let k = class_there l.program.now t c e in
        sym (ap (λ (x : Option ℕ). not (some_of (option_map (λ (k : Class). k.flags.0) (option_and_then (slice_get l.program.now.classes) x)))) e
        ∙ ap (λ (x : Option Class). not (some_of (option_map (λ (k : Class). k.flags.0) x))) k.is)

pub new_named : (l : Lookups) → IsRight l → (o : Outside) (w : World) (t : Text) → (is_class_type t && is_none (place_named l.program.now t)) ≡ may_give (run_face l) (outer_of l.program.now o) w (given.New t)
new_named l r o w t = ap (λ (b : Bool). is_class_type t && b) (free_named l r t)

-- a descriptor without its brackets
base_is : (d : ℕ) (t : Text) → is_array t ≡ false → base_of (replicate d 91 ++ t) ≡ t
base_is zero [] e = refl
base_is zero (u ∷ us) e = ap (λ (b : Bool). elim b as (λ b. Text) [ true ↦ base_of us | false ↦ u ∷ us ]) e
base_is (suc d) t e = base_is d t e

-- a number past the table is that of no class
descriptor_named : (p : Program) (u : ℕ) (us : Text) (ns : List ℕ) → list_any (has_descriptor p (u ∷ us)) ns ≡ list_any (λ (n : ℕ). text_eq (type_at p n) (u ∷ us)) ns
descriptor_named p u us [] = refl
descriptor_named p u us (n ∷ ns) = λ i. one (nat_lt n (length p.types)) refl i || descriptor_named p u us ns i
  where
    type_by : Option ℕ → Text
    type_by q = elim q as (λ q. Text) [ Some t ↦ text_at p t | None ↦ [] ]

    past : (xs : List ℕ) (m : ℕ) → (m < length xs → ⊥) → slice_get xs m ≡ None
    past [] m f = refl
    past (x ∷ xs) zero f = absurd (f (omega arith))
    past (x ∷ xs) (suc m) f = past xs m (λ low. f (omega (arith, low)))

    one : (b : Bool) → nat_lt n (length p.types) ≡ b → (b && text_eq (type_at p n) (u ∷ us)) ≡ text_eq (type_at p n) (u ∷ us)
    one true e = refl
    one false e =
        let none : slice_get p.types n ≡ None = past p.types n (λ low. (let no : true ≡ false = sym (lt-ltb n (length p.types) low) ∙ e in cc)) in
        sym (ap (λ (q : Option ℕ). text_eq (type_by q) (u ∷ us)) none)

abbrev may_hold : Bool → Text → Bool → Bool
may_hold free t kept = is_word t || is_wide t || (is_class_type t && (kept || free))

held : (p : Program) (t : Text) (ns : List ℕ) (free : Bool) → is_array t ≡ false → may_hold free t (not (is_array t) && list_any (has_descriptor p t) ns) ≡ may_hold free t (list_any (λ (n : ℕ). text_eq (type_at p n) t) ns)
held p [] ns free e = refl
held p (u ∷ us) ns free e = ap (may_hold free (u ∷ us)) (ap (λ (b : Bool). not b && list_any (has_descriptor p (u ∷ us)) ns) e ∙ descriptor_named p u us ns)

-- an array of items of a type
module _ (l : Lookups) (r : IsRight l) (o : Outside) (w : World) (k : Kind) (size : ℕ) (is : IsKind l.types k) (base : Kind) (plain : base ≡ record { depth = 0; base = k.base }) where
  pub base_there : IsKind l.types base
  base_there = subst (IsKind l.types) (sym plain) (record { base = is.base; bare = is.bare })

  array_by : (is_word (name_at l.types k.base) || is_wide (name_at l.types k.base) || (is_class_type (name_at l.types k.base) && kept_or_free l o (name_at l.types k.base))) ≡ may_give (run_face l) (outer_of l.program.now o) w (given.Array (type_text l.types k) size)
  array_by =
      let t = name_at l.types k.base in
      ap (λ (b : Bool). may_hold b t (not (is_array t) && list_any (has_descriptor l.program.now t) o.classes)) (free_named l r t)
      ∙ held l.program.now t o.classes (not (is_defined (run_face l) t)) is.bare
      ∙ sym (ap (λ (s : Text). may_hold (not (is_defined (run_face l) s)) s (list_any (λ (n : ℕ). text_eq (type_at l.program.now n) s) o.classes)) (base_is k.depth t is.bare))

  array_named : (is_word (type_text l.types base) || is_wide (type_text l.types base) || (is_class_type (type_text l.types base) && kept_or_free l o (type_text l.types base))) ≡ may_give (run_face l) (outer_of l.program.now o) w (given.Array (type_text l.types k) size)
  array_named = ap (λ (b : Kind). is_word (type_text l.types b) || is_wide (type_text l.types b) || (is_class_type (type_text l.types b) && kept_or_free l o (type_text l.types b))) plain ∙ array_by

  pub array_primitive : true ≡ (is_word (type_text l.types base) || is_wide (type_text l.types base)) → true ≡ may_give (run_face l) (outer_of l.program.now o) w (given.Array (type_text l.types k) size)
  array_primitive e = ap (λ (b : Bool). b || (is_class_type (type_text l.types base) && kept_or_free l o (type_text l.types base))) e ∙ array_named

  pub array_class : (class free : Bool) → false ≡ (is_word (type_text l.types base) || is_wide (type_text l.types base)) → class ≡ is_class_type (type_text l.types base) → free ≡ kept_or_free l o (type_text l.types base)
      → (class && free) ≡ may_give (run_face l) (outer_of l.program.now o) w (given.Array (type_text l.types k) size)
  array_class class free e f g = (λ i. e i || (f i && g i)) ∙ array_named

-- ---- a value that may be none

module _ (l : Lookups) (o : Outside) (w : OwnWorld) (old new : Gifts) where
  pub maybe_some : (g : Option Given) (x : Gift) (t : Taken) → AreBoth (IsGift l.types l.texts) g (Some x) → ((y : Given) → IsGift l.types l.texts y x → Takes l o w old new y t) → TakesMaybe l o w old new g (Some t)
  maybe_some None x t h f = absurd h
  maybe_some (Some y) x t h f = f y h

  pub maybe_none : (g : Option Given) → AreBoth (IsGift l.types l.texts) g None → new ≡ old → TakesMaybe l o w old new g None
  maybe_none None h e = e
  maybe_none (Some y) h e = absurd h

-- what a given value names
module _ (l : Lookups) (g : Given) (what : Gift) (h : IsGift l.types l.texts g what) where
  pub given_is : (pattern : Gift) → what ≡ pattern → given_of l.types l.texts pattern ≡ g
  given_is pattern e = sym (ap (given_of l.types l.texts) e) ∙ h.is

  pub new_fine : (k : Kind) → what ≡ gift.New k → IsFineKind l k
  new_fine k e = let d = subst (Stands l.types l.texts) e h.stands in record { there = d.kind; deep = d.deep }

  pub array_fine : (k : Kind) (size : ℕ) → what ≡ gift.Array k size → IsFineKind l k
  array_fine k size e = let d = subst (Stands l.types l.texts) e h.stands in record { there = d.kind; deep = d.deep }

  pub literal_fine : (n : ℕ) → what ≡ gift.Literal n → n < length (texts_of l.texts)
  literal_fine n e = subst (Stands l.types l.texts) e h.stands

  pub class_fine : (n : ℕ) → what ≡ gift.Class n → n < length (texts_of l.texts)
  class_fine n e = subst (Stands l.types l.texts) e h.stands
