-- What is drafted of a value, and what is shown by a draft, by numbers and by names.
use Rattle.std.proofs.Common.{◌≡◌, ℕ, zero, suc, ◌+◌, ◌<◌, ◌≤◌, Bool, true, false, true≢false, List, [], ◌∷◌, ◌++◌, length, map, min, get_or, arith, inl, inr, ap, refl, sym, subst, ◌∙◌, append_assoc, append-nil, length-append}
use Rattle.std.specs.Prelude.{Option, Some, None, Result, Ok, Err, OnErr, Vec, cond, drop, if◌then◌else◌, is_ok, slice_get, vec_capacity, vec_len}
use Rattle.std.proofs.lemmas.Bool.{cases_lt}
use Rattle.std.proofs.lemmas.Option.{slice_get-get_or}
use Rattle.std.specs.declared.alloc.Global.{Global}
use Rattle.dalvik_lookups.specs.declared.lookups.Lookups.{Lookups}
use Rattle.dalvik_lookups.specs.declared.types.Kind.{Kind}
use Rattle.dalvik_lookups.specs.Views.{type_text, AreTypes}
use Rattle.dalvik_defs.specs.Names.{Text, is_wide}
use Rattle.dalvik_defs.specs.Show.{mark_printed, place_in, show_all, show_at, skip}
use Rattle.dalvik_defs.specs.State.{World, kind_of}
use Rattle.dalvik_defs.specs.declared.state.Value.{Value}
use Rattle.dalvik_defs.specs.declared.state.Value.TheVariants as value
use Rattle.dalvik_defs.specs.declared.events.Shown.{Shown}
use Rattle.dalvik_defs.specs.declared.events.Shown.TheVariants as shown
use Rattle.dalvik_state.specs.declared.datum.Datum.{Datum}
use Rattle.dalvik_state.specs.declared.datum.Datum.TheVariants as datum
use Rattle.dalvik_state.specs.declared.gifts.Gifts.{Gifts}
use Rattle.dalvik_state.specs.declared.shows.Draft.{Draft}
use Rattle.dalvik_state.specs.declared.shows.Draft.TheVariants as draft
use Rattle.dalvik_state.specs.declared.world.Exposed.{Exposed}
use Rattle.dalvik_state.specs.declared.world.World.{World as OwnWorld}
use Rattle.dalvik_state.specs.Drafts.{AreAllDrawn, AreAllShown, AreDrafts, AreShown, again, first_exposed, first_place, first_spots, give_all, gift_spots, given_things, given_world, has_printed, kind_text, DraftsOf, IsDraft, IsDrawn, IsLater, IsObject, IsShown, Stands}
use Rattle.dalvik_state.specs.States.{AreKinds, HasRoom, IsSound}
use Rattle.dalvik_state.specs.Views.{IsFine, exposed_of, names_in, value_of, world_of}
use Rattle.dalvik_state.specs.Frames.{cell}
use Rattle.dalvik_state.specs.Worlds.{Spot, kind_in, new_spot, place_at, place_spot, print_at, printed_at, spots_of, IsExposed}
use Rattle.dalvik_state.proofs.Gifted.{heap_long, kind_named, spots_count}
use Rattle.dalvik_state.proofs.Later.{draft_later, later_all, later_show}
use Rattle.dalvik_state.proofs.Places.{as_long, place_is, printed_is, seen_long}
use Rattle.dalvik_state.proofs.Sound.{expose_named, printing_named, sound_expose, sound_print}
use Rattle.dalvik_state.proofs.Things.{things_long}

-- ---- drafts

-- whether an object has been printed, by numbers and by names
pub printed_named : (l : Lookups) (w : OwnWorld) → IsSound l w → (x : ℕ) → printed_at w.exposed.items (place_at (spots_of w) x) ≡ has_printed (world_of (names_in l) w) x
printed_named l w s x = ap (printed_at w.exposed.items) (place_is (spots_of w) w.exposed.items s.placed x) ∙ printed_is w.exposed.items (place_in (map exposed_of w.exposed.items) x)

object_there : (l : Lookups) (w : OwnWorld) (g : Gifts) (x : ℕ) → IsDrawn l w g (datum.Object x) → x < length (given_world (names_in l) w g).heap
object_there l w g x d =
    let low = d.fine in
    let spots = spots_count (names_in l) w g in
    let heap = heap_long (names_in l) w g in
    omega (arith, low, spots, heap)

pub object_printed : (l : Lookups) (w : OwnWorld) (g : Gifts) (x : ℕ) (kind : Text) → IsDrawn l w g (datum.Object x) → printed_at w.exposed.items (place_at (spots_of w) x) ≡ true
    → IsDraft (given_world (names_in l) w g) kind (value.Object x) (draft.Object x None)
object_printed l w g x kind d p = record {
  drafts = record {
    is = refl;
    there = object_there l w g x d;
    typed = (later_all (world_of (names_in l) w) (given_things (names_in l) g.things.items)).printed x (sym (printed_named l w d.sound x) ∙ p);
  };
}

pub object_typed : (l : Lookups) (w : OwnWorld) (g : Gifts) (x : ℕ) (kind t : Text) → IsDrawn l w g (datum.Object x) → t ≡ kind_text l (kind_in (gift_spots w g) (datum.Object x))
    → IsDraft (given_world (names_in l) w g) kind (value.Object x) (draft.Object x (Some t))
object_typed l w g x kind t d e = record {
  drafts = record {
    is = refl;
    there = object_there l w g x d;
    typed = e ∙ sym (kind_named l w g (datum.Object x) d.types d.kinds);
  };
}

-- ---- worlds in which objects are shown

pub stands_same : (w : OwnWorld) → Stands w w
stands_same w = record { size = refl; fields = refl; statics = refl; locks = refl }

pub stands_on : (w u v : OwnWorld) → Stands w u → Stands u v → Stands w v
stands_on w u v f g = record { size = g.size ∙ f.size; fields = g.fields ∙ f.fields; statics = g.statics ∙ f.statics; locks = g.locks ∙ f.locks }

-- a world with one more object exposed, or with one printed
exposed_stands : (old new : OwnWorld) (place number : ℕ) (seen : List Exposed) → IsExposed old new (place_spot place (spots_of old) number) seen → Stands old new
exposed_stands old new place number seen h = record { size = ap length h.heap ∙ as_long place (spots_of old) number; fields = h.fields; statics = h.statics; locks = h.locks }

printed_stands : (old new : OwnWorld) (seen : List Exposed) → IsExposed old new (spots_of old) seen → Stands old new
printed_stands old new seen h = record { size = ap length h.heap; fields = h.fields; statics = h.statics; locks = h.locks }

-- ---- an object is shown

abbrev shown_by : World → Text → ℕ → ℕ → Bool → World × Shown
shown_by w kind x i b = elim b as (λ b. World × Shown) [ true ↦ (w, shown.Again i) | false ↦ (record w { exposed = mark_printed x w.exposed }, shown.First i kind) ]

-- one that has been printed
pub again_shown : (l : Lookups) (declared : Text) (x : ℕ) (w : OwnWorld) → IsSound l w → printed_at w.exposed.items (place_at (spots_of w) x) ≡ true → IsShown l declared (value.Object x) w w (again (place_at (spots_of w) x))
again_shown l declared x w s p = record { shown = by (place_at (spots_of w) x) refl p; sound = s; stands = stands_same w }
  where
    by : (o : Option ℕ) → place_at (spots_of w) x ≡ o → printed_at w.exposed.items o ≡ true → show_at (world_of (names_in l) w) x (place_in (map exposed_of w.exposed.items) x) ≡ (world_of (names_in l) w, again o)
    by None e h = absurd (true≢false (sym h))
    by (Some i) e h =
        ap (show_at (world_of (names_in l) w) x) (sym (place_is (spots_of w) w.exposed.items s.placed x) ∙ e)
        ∙ ap (shown_by (world_of (names_in l) w) (kind_of (world_of (names_in l) w) (value.Object x)) x i) (sym (printed_is w.exposed.items (Some i)) ∙ h)

-- one that is shown for the first time
pub first_shown : (l : Lookups) (declared t : Text) (x : ℕ) (old new : OwnWorld) → IsSound l old → x < length (spots_of old) → printed_at old.exposed.items (place_at (spots_of old) x) ≡ false → t ≡ kind_of (world_of (names_in l) old) (value.Object x)
    → IsExposed old new (first_spots (spots_of old) old.exposed.items x (place_at (spots_of old) x)) (first_exposed old.exposed.items x (place_at (spots_of old) x))
    → IsShown l declared (value.Object x) old new (shown.First (first_place old.exposed.items (place_at (spots_of old) x)) t)
first_shown l declared t x old new s low p e h = by (place_at (spots_of old) x) refl p h
  where
    by : (o : Option ℕ) → place_at (spots_of old) x ≡ o → printed_at old.exposed.items o ≡ false → IsExposed old new (first_spots (spots_of old) old.exposed.items x o) (first_exposed old.exposed.items x o)
        → IsShown l declared (value.Object x) old new (shown.First (first_place old.exposed.items o) t)
    by None f q g = record {
      shown =
          ap (show_at (world_of (names_in l) old) x) (sym (place_is (spots_of old) old.exposed.items s.placed x) ∙ f)
          ∙ (λ i. (sym (expose_named (names_in l) old new (record { number = x; printed = true }) g) i, shown.First (seen_long old.exposed.items i) (sym e i)));
      sound = sound_expose l old new (record { number = x; printed = true }) g low f s;
      stands = exposed_stands old new (length old.exposed.items) x (old.exposed.items ++ record { number = x; printed = true } ∷ []) g;
    }
    by (Some i) f q g =
        let there : place_in (map exposed_of old.exposed.items) x ≡ Some i = sym (place_is (spots_of old) old.exposed.items s.placed x) ∙ f in
        record {
          shown =
              ap (show_at (world_of (names_in l) old) x) there
              ∙ ap (shown_by (world_of (names_in l) old) (kind_of (world_of (names_in l) old) (value.Object x)) x i) (sym (printed_is old.exposed.items (Some i)) ∙ q)
              ∙ (λ j. (sym (printing_named (names_in l) old new x i g there) j, shown.First i (sym e j)));
          sound = sound_print l old new i g s;
          stands = printed_stands old new (print_at old.exposed.items i) g;
        }

-- an object of a value, with the text of its type unless it has been printed
pub object_value : (l : Lookups) (declared : Text) (v : Value) (x : ℕ) (t : Option Text) (old new : OwnWorld) (s : Shown) → IsObject (world_of (names_in l) old) v x t → IsShown l declared (value.Object x) old new s → IsShown l declared v old new s
object_value l declared v x t old new s o h = subst (λ (u : Value). IsShown l declared u old new s) (sym o.is) h

-- one that is there stands on the heap
pub object_low : (l : Lookups) (v : Value) (x : ℕ) (t : Option Text) (w : OwnWorld) → IsObject (world_of (names_in l) w) v x t → x < length (spots_of w)
object_low l v x t w o = let low = o.there in let long = things_long (names_in l) w.fields.entries 0 (spots_of w) in omega (arith, low, long)

-- where the text is missing it has been printed
pub object_known : (l : Lookups) (v : Value) (x : ℕ) (w : OwnWorld) → IsSound l w → IsObject (world_of (names_in l) w) v x None → printed_at w.exposed.items (place_at (spots_of w) x) ≡ true
object_known l v x w s o = printed_named l w s x ∙ o.typed

-- ---- values are shown one behind another

pub drafts_later : (w u : World) (ks : List Text) (vs : List Value) (ds : List Draft) → IsLater w u → DraftsOf w ks vs ds → DraftsOf u ks vs ds
drafts_later w u [] vs [] h d = tt
drafts_later w u [] vs (x ∷ ds) h d = absurd d
drafts_later w u (k ∷ ks) [] [] h d = tt
drafts_later w u (k ∷ ks) [] (x ∷ ds) h d = absurd d
drafts_later w u (k ∷ ks) (v ∷ vs) [] h d = absurd d
drafts_later w u (k ∷ ks) (v ∷ vs) (x ∷ ds) h d = (draft_later w u k v x h d.0, drafts_later w u ks (skip k vs) ds h d.1)

-- some values have been shown; the others are to be shown by these drafts
pub record IsShowing (l : Lookups) (kinds : List Text) (values : List Value) (old new : OwnWorld) (done : List Shown) (rest : List Draft) : Type 0 where
  pub types : List Text
  pub left : List Value
  pub drafts : DraftsOf (world_of (names_in l) new) types left rest
  pub shown : show_all (world_of (names_in l) old) kinds values ≡ ((show_all (world_of (names_in l) new) types left).0, done ++ (show_all (world_of (names_in l) new) types left).1)
  pub sound : IsSound l new
  pub stands : Stands old new

pub showing_begins : (l : Lookups) (kinds : List Text) (values : List Value) (w : OwnWorld) (rest : List Draft) → IsSound l w → DraftsOf (world_of (names_in l) w) kinds values rest → IsShowing l kinds values w w [] rest
showing_begins l kinds values w rest s d = record { types = kinds; left = values; drafts = d; shown = refl; sound = s; stands = stands_same w }

pub showing_goes_on : (l : Lookups) (kinds : List Text) (values : List Value) (old mid new : OwnWorld) (done : List Shown) (x : Draft) (s : Shown) (rest : List Draft) → IsShowing l kinds values old mid done (x ∷ rest)
    → ((k : Text) (v : Value) → IsDraft (world_of (names_in l) mid) k v x → IsShown l k v mid new s) → IsShowing l kinds values old new (done ++ s ∷ []) rest
showing_goes_on l kinds values old mid new done x s rest h shows = by h.types h.left h.drafts h.shown
  where
    by : (ks : List Text) (vs : List Value) → DraftsOf (world_of (names_in l) mid) ks vs (x ∷ rest) → show_all (world_of (names_in l) old) kinds values ≡ ((show_all (world_of (names_in l) mid) ks vs).0, done ++ (show_all (world_of (names_in l) mid) ks vs).1)
        → IsShowing l kinds values old new (done ++ s ∷ []) rest
    by [] vs d e = absurd d
    by (k ∷ ks) [] d e = absurd d
    by (k ∷ ks) (v ∷ vs) d e =
        let one = shows k v d.0 in
        let later : IsLater (world_of (names_in l) mid) (world_of (names_in l) new) = subst (λ (z : World × Shown). IsLater (world_of (names_in l) mid) z.0) one.shown (later_show (world_of (names_in l) mid) k v) in
        record {
          types = ks;
          left = skip k vs;
          drafts = drafts_later (world_of (names_in l) mid) (world_of (names_in l) new) ks (skip k vs) rest later d.1;
          shown = e
              ∙ ap (λ (z : World × Shown). ((show_all z.0 ks (skip k vs)).0, done ++ (z.1 ∷ (show_all z.0 ks (skip k vs)).1))) one.shown
              ∙ ap (λ (zs : List Shown). ((show_all (world_of (names_in l) new) ks (skip k vs)).0, zs)) (sym (append_assoc done (s ∷ []) (show_all (world_of (names_in l) new) ks (skip k vs)).1));
          sound = one.sound;
          stands = stands_on old mid new h.stands one.stands;
        }

pub showing_ends : (l : Lookups) (kinds : List Text) (values : List Value) (old new : OwnWorld) (done : List Shown) → IsShowing l kinds values old new done [] → show_all (world_of (names_in l) old) kinds values ≡ (world_of (names_in l) new, done)
showing_ends l kinds values old new done h = by h.types h.left h.drafts h.shown
  where
    by : (ks : List Text) (vs : List Value) → DraftsOf (world_of (names_in l) new) ks vs [] → show_all (world_of (names_in l) old) kinds values ≡ ((show_all (world_of (names_in l) new) ks vs).0, done ++ (show_all (world_of (names_in l) new) ks vs).1)
        → show_all (world_of (names_in l) old) kinds values ≡ (world_of (names_in l) new, done)
    by [] vs d e = e ∙ ap (λ (zs : List Shown). (world_of (names_in l) new, zs)) (append-nil done)
    by (k ∷ ks) [] d e = e ∙ ap (λ (zs : List Shown). (world_of (names_in l) new, zs)) (append-nil done)
    by (k ∷ ks) (v ∷ vs) d e = absurd d

-- ---- the list that they are shown in

pub push_goes : {X A E : Type 0} (r : Result A E) (old good new : X) (capacity size : ℕ) → new ≡ (if is_ok r then good else old) → OnErr r (capacity ≤ size) → size < capacity → new ≡ good
push_goes (Ok a) old good new capacity size e full low = e
push_goes (Err a) old good new capacity size e full low = absurd (omega (arith, full, low))

-- Some drafts have been shown. Where the list had room for all, it has what was shown of them.
pub record IsEach (old new : OwnWorld) (before now : Vec Shown Global) (done : List Draft) : Type 0 where
  pub shows : (l : Lookups) (kinds : List Text) (values : List Value) (rest : List Draft) → IsSound l old → DraftsOf (world_of (names_in l) old) kinds values (done ++ rest) → HasRoom old (length (done ++ rest)) → length (done ++ rest) ≤ vec_capacity before
      → before.items ≡ [] → vec_len before ≡ 0 → IsShowing l kinds values old new now.items rest
  pub room : (count : ℕ) → HasRoom old (length done + count) → HasRoom new count
  pub long : vec_len before ≡ 0 → length done ≤ vec_capacity before → vec_len now ≡ length done
  pub capacity : vec_capacity before ≤ vec_capacity now

pub each_begins : (w : OwnWorld) (v : Vec Shown Global) → IsEach w w v v []
each_begins w v = record {
  shows = λ l kinds values rest s d room capacity e none. subst (λ (xs : List Shown). IsShowing l kinds values w w xs rest) (sym e) (showing_begins l kinds values w rest s d);
  room = λ count h. (let r = h.room in record { room = omega (arith, r) });
  long = λ none low. none;
  capacity = omega arith;
}

pub each_goes_on : (old mid new : OwnWorld) (before now after : Vec Shown Global) (done : List Draft) (x : Draft) (s : Shown) → IsEach old mid before now done
    → ((l : Lookups) (k : Text) (v : Value) → IsSound l mid → HasRoom mid 1 → IsDraft (world_of (names_in l) mid) k v x → IsShown l k v mid new s) → ((count : ℕ) → HasRoom mid (count + 1) → HasRoom new count)
    → (vec_len now < vec_capacity now → after.items ≡ now.items ++ s ∷ []) → (vec_len now < vec_capacity now → vec_len after ≡ vec_len now + 1) → vec_capacity now ≤ vec_capacity after → IsEach old new before after (done ++ x ∷ [])
each_goes_on old mid new before now after done x s h shows room items long capacity = record {
  shows = each;
  room = λ count r. room count (h.room (count + 1) (let more = length-append done (x ∷ []) in let q = r.room in record { room = omega (arith, more, q) }));
  long = λ none low.
      (let more = length-append done (x ∷ []) in
      let size = h.long none (omega (arith, low, more)) in
      let up = h.capacity in
      let next = long (omega (arith, low, more, size, up)) in
      omega (arith, more, size, next));
  capacity = (let up = h.capacity in omega (arith, up, capacity));
}
  where
    each : (l : Lookups) (kinds : List Text) (values : List Value) (rest : List Draft) → IsSound l old → DraftsOf (world_of (names_in l) old) kinds values ((done ++ x ∷ []) ++ rest) → HasRoom old (length ((done ++ x ∷ []) ++ rest)) → length ((done ++ x ∷ []) ++ rest) ≤ vec_capacity before
        → before.items ≡ [] → vec_len before ≡ 0 → IsShowing l kinds values old new after.items rest
    each l kinds values rest sound d r low e none =
        let same : (done ++ x ∷ []) ++ rest ≡ done ++ x ∷ rest = append_assoc done (x ∷ []) rest in
        let count = length-append done (x ∷ rest) in
        let all = ap length same in
        let size = h.long none (omega (arith, low, all, count)) in
        let up = h.capacity in
        let fits : vec_len now < vec_capacity now = omega (arith, low, all, count, size, up) in
        let m = h.shows l kinds values (x ∷ rest) sound (subst (DraftsOf (world_of (names_in l) old) kinds values) same d) (let q = r.room in record { room = omega (arith, q, all) }) (omega (arith, low, all)) e none in
        let one : HasRoom mid 1 = h.room 1 (let q = r.room in record { room = omega (arith, q, all, count) }) in
        subst (λ (xs : List Shown). IsShowing l kinds values old new xs rest) (sym (items fits)) (showing_goes_on l kinds values old mid new now.items x s rest m (λ k v y. shows l k v m.sound one y))

-- ---- values of a call are drafted

-- a move without objects
none_given : (l : Lookups) (w : OwnWorld) (g : Gifts) → g.things.items ≡ [] → given_world (names_in l) w g ≡ world_of (names_in l) w
none_given l w g e = ap (λ ts. give_all (world_of (names_in l) w) (given_things (names_in l) ts)) e

none_spots : (w : OwnWorld) (g : Gifts) → g.things.items ≡ [] → spots_of w ≡ gift_spots w g
none_spots w g e = sym (append-nil (spots_of w)) ∙ ap (λ ts. spots_of w ++ map new_spot ts) (sym e)

-- the entry at a place, or the word 0
cell_got : (ds : List Datum) (i : ℕ) (d : Datum) → slice_get ds i ≡ Some d → cell ds i ≡ d
cell_got [] i d e = absurd (cc)
cell_got (x ∷ xs) zero d e = (let same : x ≡ d = cc in same)
cell_got (x ∷ xs) (suc i) d e = cell_got xs i d e

pub drawn_one : (l : Lookups) (w : OwnWorld) (g : Gifts) (values : List Datum) (i : ℕ) (d : Datum) → AreAllDrawn l w values → g.things.items ≡ [] → slice_get values i ≡ Some d → IsDrawn l w g d
drawn_one l w g values i d a e got = record {
  types = a.types;
  sound = a.sound;
  kinds = subst (AreKinds l) (none_spots w g e) a.sound.kinds;
  fine = subst (λ (ss : List Spot). IsFine (names_in l) (length ss) d) (none_spots w g e) (subst (IsFine (names_in l) (length (spots_of w))) (cell_got values i d got) (a.fine.at i));
}

drop_step : {X : Type 0} (xs : List X) (i : ℕ) (x : X) → slice_get xs i ≡ Some x → drop i xs ≡ x ∷ drop (suc i) xs
drop_step [] i x e = absurd (cc)
drop_step (y ∷ ys) zero x e = (let same : y ≡ x = cc in ap (λ z. z ∷ ys) same)
drop_step (y ∷ ys) (suc i) x e = drop_step ys i x e

drop_got : {X : Type 0} (xs : List X) (i : ℕ) (x : X) → slice_get xs i ≡ Some x → drop i xs ≡ x ∷ drop (i + 1) xs
drop_got xs i x e = let next : suc i ≡ i + 1 = omega arith in drop_step xs i x e ∙ ap (λ (j : ℕ). x ∷ drop j xs) next

drop_past : {X : Type 0} (xs : List X) (i : ℕ) → length xs ≤ i → drop i xs ≡ []
drop_past [] zero h = refl
drop_past [] (suc i) h = refl
drop_past (x ∷ xs) zero h = absurd (omega arith)
drop_past (x ∷ xs) (suc i) h = drop_past xs i (omega arith)

drop_next : {X Y : Type 0} (f : X → Y) (xs : List X) (i : ℕ) → drop 1 (map f (drop i xs)) ≡ map f (drop (suc i) xs)
drop_next f [] zero = refl
drop_next f [] (suc i) = refl
drop_next f (x ∷ xs) zero = refl
drop_next f (x ∷ xs) (suc i) = drop_next f xs i

drop_one : {X Y : Type 0} (f : X → Y) (xs : List X) (i : ℕ) → drop 1 (map f (drop i xs)) ≡ map f (drop (i + 1) xs)
drop_one f xs i = let next : suc i ≡ i + 1 = omega arith in drop_next f xs i ∙ ap (λ (j : ℕ). map f (drop j xs)) next

-- Some values have been drafted: where the others are by some drafts, all are by those behind these.
pub record AreDrafting (l : Lookups) (w : OwnWorld) (kinds : List Kind) (values : List Datum) (index at : ℕ) (drafts : List Draft) : Type 0 where
  pub goes : AreAllDrawn l w values → (more : List Draft) → DraftsOf (world_of (names_in l) w) (map (type_text l.types) (drop index kinds)) (map (value_of (names_in l)) (drop at values)) more
      → DraftsOf (world_of (names_in l) w) (map (type_text l.types) kinds) (map (value_of (names_in l)) values) (drafts ++ more)

pub drafting_begins : (l : Lookups) (w : OwnWorld) (kinds : List Kind) (values : List Datum) → AreDrafting l w kinds values 0 0 []
drafting_begins l w kinds values = record { goes = λ a more d. d }

-- a number that would grow past the largest one stops there, which is past the end too
drop_most : {X : Type 0} (xs : List X) (i next most : ℕ) → next ≡ min i most → length xs ≤ most → drop next xs ≡ drop i xs
drop_most xs i next most e h = elim (cases_lt i most) [
  | inl low ↦ ap (λ (j : ℕ). drop j xs) (let same : next ≡ i = omega (arith, e, low) in same)
  | inr high ↦ drop_past xs next (omega (arith, e, high, h)) ∙ sym (drop_past xs i (omega (arith, high, h)))
]

skipped : (l : Lookups) (values : List Datum) (at : ℕ) (kind : Text) (b : Bool) → is_wide kind ≡ b → map (value_of (names_in l)) (drop (at + cond b 2 1) values) ≡ skip kind (map (value_of (names_in l)) (drop (at + 1) values))
skipped l values at kind true e =
    ap (λ (i : ℕ). map (value_of (names_in l)) (drop i values)) (let far : at + 2 ≡ at + 1 + 1 = omega arith in far)
    ∙ sym (drop_one (value_of (names_in l)) values (at + 1))
    ∙ sym (ap (λ (b : Bool). elim b as (λ b. List Value) [ true ↦ drop 1 (map (value_of (names_in l)) (drop (at + 1) values)) | false ↦ map (value_of (names_in l)) (drop (at + 1) values) ]) e)
skipped l values at kind false e = sym (ap (λ (b : Bool). elim b as (λ b. List Value) [ true ↦ drop 1 (map (value_of (names_in l)) (drop (at + 1) values)) | false ↦ map (value_of (names_in l)) (drop (at + 1) values) ]) e)

pub drafting_goes_on : (l : Lookups) (w : OwnWorld) (g : Gifts) (kinds : List Kind) (values : List Datum) (index at next width most : ℕ) (drafts : List Draft) (k : Kind) (d : Datum) (x : Draft) → AreDrafting l w kinds values index at drafts → g.things.items ≡ []
    → slice_get kinds index ≡ Some k → slice_get values at ≡ Some d → (IsDrawn l w g d → IsDraft (given_world (names_in l) w g) (type_text l.types k) (value_of (names_in l) d) x) → (AreTypes l.types → width ≡ cond (is_wide (type_text l.types k)) 2 1) → next ≡ min (at + width) most → length values ≤ most
    → AreDrafting l w kinds values (index + 1) next (drafts ++ x ∷ [])
drafting_goes_on l w g kinds values index at next width most drafts k d x h e kind datum drafted wide step short = record { goes = on }
  where
    on : AreAllDrawn l w values → (more : List Draft) → DraftsOf (world_of (names_in l) w) (map (type_text l.types) (drop (index + 1) kinds)) (map (value_of (names_in l)) (drop next values)) more
        → DraftsOf (world_of (names_in l) w) (map (type_text l.types) kinds) (map (value_of (names_in l)) values) ((drafts ++ x ∷ []) ++ more)
    on a more r =
        let n = names_in l in
        let one : IsDraft (world_of n w) (type_text l.types k) (value_of n d) x = subst (λ (u : World). IsDraft u (type_text l.types k) (value_of n d) x) (none_given l w g e) (drafted (drawn_one l w g values at d a e datum)) in
        let behind : map (value_of n) (drop next values) ≡ skip (type_text l.types k) (map (value_of n) (drop (at + 1) values)) =
        ap (map (value_of n)) (drop_most values (at + width) next most step short)
        ∙ ap (λ (i : ℕ). map (value_of n) (drop (at + i) values)) (wide a.types)
        ∙ skipped l values at (type_text l.types k) (is_wide (type_text l.types k)) refl in
        let rest : DraftsOf (world_of n w) (map (type_text l.types) (drop (index + 1) kinds)) (skip (type_text l.types k) (map (value_of n) (drop (at + 1) values))) more =
        subst (λ (vs : List Value). DraftsOf (world_of n w) (map (type_text l.types) (drop (index + 1) kinds)) vs more) behind r in
        let both : DraftsOf (world_of n w) (map (type_text l.types) (k ∷ drop (index + 1) kinds)) (map (value_of n) (d ∷ drop (at + 1) values)) (x ∷ more) = (one, rest) in
        let of_kinds = subst (λ (ks : List Kind). DraftsOf (world_of n w) (map (type_text l.types) ks) (map (value_of n) (d ∷ drop (at + 1) values)) (x ∷ more)) (sym (drop_got kinds index k kind)) both in
        let of_values = subst (λ (ds : List Datum). DraftsOf (world_of n w) (map (type_text l.types) (drop index kinds)) (map (value_of n) ds) (x ∷ more)) (sym (drop_got values at d datum)) of_kinds in
        subst (DraftsOf (world_of n w) (map (type_text l.types) kinds) (map (value_of n) values)) (sym (append_assoc drafts (x ∷ []) more)) (h.goes a (x ∷ more) of_values)

-- the entry that a loop or a look-up reads
pub got_or : {X : Type 0} (xs : List X) (i : ℕ) (d : X) → i < length xs → slice_get xs i ≡ Some (get_or xs i d)
got_or xs i d h = slice_get-get_or xs i d h

pub got_is : {X : Type 0} (xs : List X) (i : ℕ) (d : X) → d ≡ get_or xs i d → i < length xs → slice_get xs i ≡ Some d
got_is xs i d e h = slice_get-get_or xs i d h ∙ ap (λ x. Some x) (sym e)

pub same_list : (xs : List Draft) → map (λ (x : Draft). x) xs ≡ xs
same_list [] = refl
same_list (x ∷ xs) = ap (λ (ys : List Draft). x ∷ ys) (same_list xs)

none_of_none : (w : World) (ks : List Text) → DraftsOf w ks [] []
none_of_none w [] = tt
none_of_none w (k ∷ ks) = tt

pub drafting_ends : (l : Lookups) (w : OwnWorld) (kinds : List Kind) (values : List Datum) (index at : ℕ) (drafts : List Draft) → AreDrafting l w kinds values index at drafts → length kinds ≤ index → AreAllDrawn l w values
    → DraftsOf (world_of (names_in l) w) (map (type_text l.types) kinds) (map (value_of (names_in l)) values) drafts
drafting_ends l w kinds values index at drafts h past a =
    subst (DraftsOf (world_of (names_in l) w) (map (type_text l.types) kinds) (map (value_of (names_in l)) values)) (append-nil drafts)
    (h.goes a [] (subst (λ (ks : List Kind). DraftsOf (world_of (names_in l) w) (map (type_text l.types) ks) (map (value_of (names_in l)) (drop at values)) []) (sym (drop_past kinds index past)) tt))

pub drafting_stops : (l : Lookups) (w : OwnWorld) (kinds : List Kind) (values : List Datum) (index at : ℕ) (drafts : List Draft) → AreDrafting l w kinds values index at drafts → length values ≤ at → AreAllDrawn l w values
    → DraftsOf (world_of (names_in l) w) (map (type_text l.types) kinds) (map (value_of (names_in l)) values) drafts
drafting_stops l w kinds values index at drafts h past a =
    subst (DraftsOf (world_of (names_in l) w) (map (type_text l.types) kinds) (map (value_of (names_in l)) values)) (append-nil drafts)
    (h.goes a [] (subst (λ (ds : List Datum). DraftsOf (world_of (names_in l) w) (map (type_text l.types) (drop index kinds)) (map (value_of (names_in l)) ds) []) (sym (drop_past values at past)) (none_of_none (world_of (names_in l) w) (map (type_text l.types) (drop index kinds)))))

-- all have been shown
pub each_ends : (old new : OwnWorld) (before now : Vec Shown Global) (done all : List Draft) → done ≡ all → vec_len before ≡ length before.items → IsEach old new before now done
    → (l : Lookups) (kinds : List Text) (values : List Value) → IsSound l old → HasRoom old (length all) → length all ≤ vec_capacity before → before.items ≡ [] → DraftsOf (world_of (names_in l) old) kinds values all → AreAllShown l kinds values old new now.items
each_ends old new before now done all e size h l kinds values s room low none d =
    let same : all ≡ done ++ [] = sym e ∙ sym (append-nil done) in
    let count : length all ≡ length (done ++ []) = ap length same in
    let zero_long : vec_len before ≡ 0 = size ∙ ap length none in
    let m = h.shows l kinds values [] s (subst (DraftsOf (world_of (names_in l) old) kinds values) same d) (subst (λ (k : ℕ). HasRoom old k) count room) (subst (λ (k : ℕ). k ≤ vec_capacity before) count low) none zero_long in
    record { shown = showing_ends l kinds values old new now.items m; sound = m.sound; stands = m.stands }

-- ---- values that may be none

pub option_shown : (l : Lookups) (kind : Text) (v : Option Value) (old new : OwnWorld) (d : Draft) (s : Shown) → AreDrafts (world_of (names_in l) old) kind v (Some d) → ((u : Value) → IsDraft (world_of (names_in l) old) kind u d → IsShown l kind u old new s) → AreShown l kind v old new (Some s)
option_shown l kind None old new d s a h = absurd a.drafts
option_shown l kind (Some v) old new d s a h = let r = h v a.drafts in record { shown = ap (λ (z : World × Shown). (z.0, Some z.1)) r.shown; sound = r.sound; stands = r.stands }
