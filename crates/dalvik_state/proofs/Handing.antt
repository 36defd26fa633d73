-- Objects that are put on the heap and exposed there.
use Rattle.std.proofs.Common.{◌≡◌, ℕ, zero, suc, ◌+◌, ◌<◌, ◌≤◌, inl, inr, Bool, false, List, [], ◌∷◌, ◌++◌, length, map, cond, nat_eq, arith, ap, refl, sym, subst, ◌∙◌, append-nil, length-append, eq-eqb}
use Rattle.std.specs.Prelude.{Option, Some, None, ◌&&◌, slice_get}
use Rattle.std.specs.Map.{lookup}
use Rattle.std.specs.Option.{option_map, option_and_then, option_or}
use Rattle.dalvik_lookups.specs.declared.lookups.Lookups.{Lookups}
use Rattle.dalvik_lookups.proofs.Interned.{got_last, got_short}
use Rattle.dalvik_defs.specs.Show.{place_in, with_given}
use Rattle.dalvik_defs.specs.State.{Instance, Thing, World}
use Rattle.dalvik_defs.specs.declared.names.FieldKey.{FieldKey}
use Rattle.dalvik_state.specs.declared.datum.Datum.{Datum}
use Rattle.dalvik_state.specs.declared.gifts.Gifts.{Gifts}
use Rattle.dalvik_state.specs.declared.world.Exposed.{Exposed}
use Rattle.dalvik_state.specs.declared.world.Thing.{Thing as OwnThing}
use Rattle.dalvik_state.specs.declared.world.World.{World as OwnWorld}
use Rattle.dalvik_state.specs.Drafts.{give_all, given_exposed, given_shape, given_spots, given_things}
use Rattle.dalvik_state.specs.Giving.{AreGiven, IsGiven}
use Rattle.dalvik_state.specs.States.{kind_within, AreKinds, ArePlaced, AreWritten, HasRoom, HasSpace, IsFineKind, IsSound}
use Rattle.dalvik_state.specs.Views.{AreFineSpots, IsFineShape, Names, exposed_of, field_in, is_at, names_in, place_of_field, thing_of, things_from, value_of, world_of}
use Rattle.dalvik_state.specs.Worlds.{Array, Plain, Shape, Spot, new_spot, shape_of, spots_of, IsExposed, IsShort, IsShortShape}
use Rattle.dalvik_state.proofs.Fine.{fine_more, shape_more}
use Rattle.dalvik_state.proofs.Gifted.{give_more, spots_count, things_more}
use Rattle.dalvik_state.proofs.Places.{or_none, place_more, place_past, seen_more, unlike}
use Rattle.dalvik_state.proofs.Sound.{exposing_named}
use Rattle.dalvik_state.proofs.Things.{more_named, things_long}

-- ---- a new object has no fields yet

none_there : (size : ℕ) (fields : List ((ℕ × ℕ) × Datum)) → ((i : ℕ) (e : (ℕ × ℕ) × Datum) → slice_get fields i ≡ Some e → e.0.0 < size) → (number place : ℕ) → size ≤ number → lookup (is_at number place) fields ≡ None
none_there size [] h number place le = refl
none_there size (e ∷ es) h number place le =
    let low = h 0 e refl in
    ap (λ (b : Bool). cond (b && nat_eq place e.0.1) (Some e.1) (lookup (is_at number place) es)) (unlike number e.0.0 (λ same. absurd (omega (arith, low, le, same))))
    ∙ none_there size es (λ i x g. h (suc i) x g) number place le

no_fields : (n : Names) (size : ℕ) (fields : List ((ℕ × ℕ) × Datum)) → AreWritten size fields → (number : ℕ) → size ≤ number → field_in n fields number ≡ (λ (k : FieldKey). None)
no_fields n size fields h number le = λ i k. at (place_of_field n.program k) i
  where
    at : (o : Option ℕ) → option_and_then (λ (place : ℕ). option_map (value_of n) (lookup (is_at number place) fields)) o ≡ None
    at None = refl
    at (Some place) = ap (option_map (value_of n)) (none_there size fields h.at number place le)

fresh_shape : (n : Names) (size : ℕ) (fields : List ((ℕ × ℕ) × Datum)) → AreWritten size fields → (number : ℕ) → size ≤ number → (s : Shape) → thing_of n fields number s ≡ given_shape n s
fresh_shape n size fields h number le (Plain kind) = ap (Instance (n.kind kind)) (no_fields n size fields h number le)
fresh_shape n size fields h number le (Array kind items) = refl

-- ---- one object

abbrev last_spot : OwnWorld → OwnThing → Spot
last_spot w t = record { shape = shape_of t; place = Some (length w.exposed.items) }

abbrev last_seen : OwnWorld → Exposed
last_seen w = record { number = length (spots_of w); printed = false }

abbrev IsOneGiven : OwnWorld → OwnWorld → OwnThing → Type 0
IsOneGiven w v t = IsExposed w v (given_spots (spots_of w) w.exposed.items t) (given_exposed (spots_of w) w.exposed.items)

pub one_named : (l : Lookups) (w v : OwnWorld) (t : OwnThing) → IsSound l w → IsOneGiven w v t → world_of (names_in l) v ≡ with_given (world_of (names_in l) w) (given_shape (names_in l) (shape_of t))
one_named l w v t s h =
    let n = names_in l in
    let size = length (spots_of w) in
    let heap : things_from n w.fields.entries 0 (spots_of w ++ last_spot w t ∷ []) ≡ things_from n w.fields.entries 0 (spots_of w) ++ given_shape n (shape_of t) ∷ [] =
    more_named n w.fields.entries 0 (spots_of w) (last_spot w t)
    ∙ ap (λ (x : Thing). things_from n w.fields.entries 0 (spots_of w) ++ x ∷ []) (fresh_shape n size w.fields.entries s.written (0 + size) (omega arith) (shape_of t)) in
    let seen : map exposed_of (w.exposed.items ++ last_seen w ∷ []) ≡ map exposed_of w.exposed.items ++ record { number = length (things_from n w.fields.entries 0 (spots_of w)); printed = false } ∷ [] =
    seen_more w.exposed.items (last_seen w ∷ [])
    ∙ ap (λ (k : ℕ). map exposed_of w.exposed.items ++ record { number = k; printed = false } ∷ []) (sym (things_long n w.fields.entries 0 (spots_of w))) in
    exposing_named n w v (spots_of w ++ last_spot w t ∷ []) (w.exposed.items ++ last_seen w ∷ []) h
    ∙ (λ i. record (world_of n w) { heap = heap i; exposed = seen i })

each_spot : (P : Spot → Type 0) (spots : List Spot) (s : Spot) → ((i : ℕ) (x : Spot) → slice_get spots i ≡ Some x → P x) → P s → (i : ℕ) (x : Spot) → slice_get (spots ++ s ∷ []) i ≡ Some x → P x
each_spot P spots s each one i x at = elim (got_last spots s x i at) [
  | inl old ↦ each i x old
  | inr new ↦ subst P (sym new.1) one
]

placed_last : (spots : List Spot) (exposed : List Exposed) (s : Spot) → s.place ≡ Some (length exposed) → ArePlaced spots exposed → ArePlaced (spots ++ s ∷ []) (exposed ++ record { number = length spots; printed = false } ∷ [])
placed_last spots exposed s e h = record {
  below = λ i x g.
      let long = length-append spots (s ∷ []) in
      elim (got_last exposed one x i g) [
        | inl old ↦ (let low = h.below i x old in omega (arith, low, long))
        | inr new ↦ subst (λ (y : Exposed). y.number < length (spots ++ s ∷ [])) (sym new.1) (omega (arith, long))
      ];
  at = λ i x g. elim (got_last spots s x i g) [
    | inl old ↦ (let low = got_short spots i x old in
        h.at i x old ∙ sym (place_more exposed one i
        ∙ ap (λ (b : Bool). option_or (place_in (map exposed_of exposed) i) (cond b (Some (length exposed)) None)) (unlike (length spots) i (λ same. absurd (omega (arith, low, same))))
        ∙ or_none (place_in (map exposed_of exposed) i)))
    | inr new ↦ ap (λ (y : Spot). y.place) new.1 ∙ e ∙ sym (place_more exposed one i
        ∙ ap (λ (o : Option ℕ). option_or o (cond (nat_eq (length spots) i) (Some (length exposed)) None)) (place_past (length spots) exposed h.below i (let f = new.0 in omega (arith, f)))
        ∙ ap (λ (b : Bool). cond b (Some (length exposed)) None) (eq-eqb (length spots) i (sym new.0)))
  ];
}
  where
    one : Exposed
    one = record { number = length spots; printed = false }

pub one_sound : (l : Lookups) (w v : OwnWorld) (t : OwnThing) → IsSound l w → IsOneGiven w v t → IsFineKind l (kind_within (shape_of t)) → IsShortShape (shape_of t) → IsFineShape (names_in l) 0 (shape_of t) → IsSound l v
one_sound l w v t s h kind short fine =
    let n = names_in l in
    let old = length (spots_of w) in
    let new = length (spots_of v) in
    let long = length-append (spots_of w) (last_spot w t ∷ []) in
    let count : new ≡ length (spots_of w ++ last_spot w t ∷ []) = ap length h.heap in
    let more : old ≤ new = omega (arith, long, count) in
    record {
      fine = record {
        arrays = subst (AreFineSpots n new) (sym h.heap) (record { at = each_spot (λ (x : Spot). IsFineShape n new x.shape) (spots_of w) (last_spot w t) (λ i x e. shape_more n old new x.shape more (s.fine.arrays.at i x e)) (shape_more n 0 new (shape_of t) (omega arith) fine) });
        fields = λ i e g. fine_more n old new e.1 more (s.fine.fields i e (ap (λ m. slice_get m.entries i) (sym h.fields) ∙ g));
        statics = λ i d g. fine_more n old new d more (s.fine.statics i d (ap (λ x. slice_get x.items i) (sym h.statics) ∙ g));
        locks = record { at = λ i e g. fine_more n old new e.0 more (s.fine.locks.at i e (ap (λ m. slice_get m.entries i) (sym h.locks) ∙ g)) };
      };
      kinds = subst (λ (ss : List Spot). AreKinds l ss) (sym h.heap) (record { at = each_spot (λ (x : Spot). IsFineKind l (kind_within x.shape)) (spots_of w) (last_spot w t) s.kinds.at kind });
      placed = subst (λ (es : List Exposed). ArePlaced (spots_of v) es) (sym h.exposed) (subst (λ (ss : List Spot). ArePlaced ss (w.exposed.items ++ last_seen w ∷ [])) (sym h.heap) (placed_last (spots_of w) w.exposed.items (last_spot w t) refl s.placed));
      written = record { at = λ i e g. let low = s.written.at i e (ap (λ m. slice_get m.entries i) (sym h.fields) ∙ g) in omega (arith, low, more) };
      statics = ap (λ v. length v.items) h.statics ∙ s.statics;
      short = subst (λ (ss : List Spot). IsShort ss) (sym h.heap) (record { at = each_spot (λ (x : Spot). IsShortShape x.shape) (spots_of w) (last_spot w t) s.short.at short });
    }

-- ---- one behind another

-- so many are given
pub record AreDone (l : Lookups) (start : OwnWorld) (done : List OwnThing) (w : OwnWorld) : Type 0 where
  pub world : world_of (names_in l) w ≡ give_all (world_of (names_in l) start) (given_things (names_in l) done)
  pub spots : length (spots_of w) ≡ length (spots_of start) + length done
  pub sound : IsSound l w
  pub locks : w.locks ≡ start.locks

pub none_done : (l : Lookups) (w : OwnWorld) → IsSound l w → AreDone l w [] w
none_done l w s = record { world = refl; spots = omega arith; sound = s; locks = refl }

pub one_done : (l : Lookups) (start w v : OwnWorld) (done : List OwnThing) (t : OwnThing) → AreDone l start done w → IsOneGiven w v t → IsFineKind l (kind_within (shape_of t)) → IsShortShape (shape_of t) → IsFineShape (names_in l) 0 (shape_of t) → AreDone l start (done ++ t ∷ []) v
one_done l start w v done t d h kind short fine =
    let n = names_in l in
    let spots = d.spots in
    let more = length-append done (t ∷ []) in
    let long = length-append (spots_of w) (last_spot w t ∷ []) in
    let count : length (spots_of v) ≡ length (spots_of w ++ last_spot w t ∷ []) = ap length h.heap in
    record {
      world =
          one_named l w v t d.sound h
          ∙ ap (λ (u : World). with_given u (given_shape n (shape_of t))) d.world
          ∙ sym (ap (give_all (world_of n start)) (things_more n done (t ∷ [])) ∙ give_more (world_of n start) (given_things n done) (given_shape n (shape_of t) ∷ []));
      spots = omega (arith, spots, more, long, count);
      sound = one_sound l w v t d.sound h kind short fine;
      locks = h.locks ∙ d.locks;
    }

pub all_done : (l : Lookups) (g : Gifts) (start w : OwnWorld) → AreDone l start g.things.items w → AreGiven l g start w
all_done l g start w d =
    let spots = d.spots in
    let count = spots_count (names_in l) start g in
    record { world = d.world; spots = omega (arith, spots, count); sound = d.sound; locks = d.locks }

-- a thing of a move
thing_at : (ts : List OwnThing) (i : ℕ) (t : OwnThing) → slice_get ts i ≡ Some t → slice_get (map new_spot ts) i ≡ Some (new_spot t)
thing_at [] i t e = absurd (cc)
thing_at (x ∷ xs) zero t e = let same : x ≡ t = cc in ap (λ (y : OwnThing). Some (new_spot y)) same
thing_at (x ∷ xs) (suc i) t e = thing_at xs i t e

behind_at : (ss ts : List Spot) (i : ℕ) → slice_get (ss ++ ts) (length ss + i) ≡ slice_get ts i
behind_at [] ts i = let e : 0 + i ≡ i = omega arith in ap (λ (k : ℕ). slice_get ts k) e
behind_at (s ∷ ss) ts i = let e : length (s ∷ ss) + i ≡ suc (length ss + i) = omega arith in ap (λ (k : ℕ). slice_get (s ∷ (ss ++ ts)) k) e ∙ behind_at ss ts i

pub record IsFit (l : Lookups) (t : OwnThing) : Type 0 where
  pub kind : IsFineKind l (kind_within (shape_of t))
  pub short : IsShortShape (shape_of t)
  pub fine : IsFineShape (names_in l) 0 (shape_of t)

pub each_fit : (l : Lookups) (w : OwnWorld) (g : Gifts) → IsGiven l w g → (i : ℕ) (t : OwnThing) → slice_get g.things.items i ≡ Some t → IsFit l t
each_fit l w g h i t e =
    let own = thing_at g.things.items i t e in
    let at = behind_at (spots_of w) (map new_spot g.things.items) i ∙ own in
    record {
      kind = h.kinds.at (length (spots_of w) + i) (new_spot t) at;
      short = h.short.at (length (spots_of w) + i) (new_spot t) at;
      fine = h.fine.at i (new_spot t) own;
    }

-- ---- room for all of them

pub record IsRoomLeft (old now : OwnWorld) (all rest : ℕ) : Type 0 where
  pub room : (count : ℕ) → HasRoom old (all + count) → HasRoom now (rest + count)
  pub space : (count : ℕ) → HasSpace old (all + count) → HasSpace now (rest + count)

pub room_begins : (w : OwnWorld) (all : ℕ) → IsRoomLeft w w all all
room_begins w all = record { room = λ count h. h; space = λ count h. h }

pub room_goes_on : (old now next : OwnWorld) (all rest less : ℕ) → rest ≡ less + 1 → IsRoomLeft old now all rest
    → ((count : ℕ) → HasRoom now (count + 1) → HasRoom next count) → ((count : ℕ) → HasSpace now (count + 1) → HasSpace next count) → IsRoomLeft old next all less
room_goes_on old now next all rest less e h f g = record {
  room = λ count r. let same : rest + count ≡ less + count + 1 = omega (arith, e) in f (less + count) (subst (HasRoom now) same (h.room count r));
  space = λ count r. let same : rest + count ≡ less + count + 1 = omega (arith, e) in g (less + count) (subst (HasSpace now) same (h.space count r));
}

-- what has room for those that are left has room for one of them
pub room_now : (old now : OwnWorld) (all rest less : ℕ) → rest ≡ less + 1 → IsRoomLeft old now all rest → HasRoom old all → HasRoom now 1
room_now old now all rest less e h r =
    let all_of : all ≡ all + 0 = omega arith in
    let q = (h.room 0 (subst (HasRoom old) all_of r)).room in
    record { room = omega (arith, q, e) }

pub space_now : (old now : OwnWorld) (all rest less : ℕ) → rest ≡ less + 1 → IsRoomLeft old now all rest → HasSpace old all → HasSpace now 1
space_now old now all rest less e h r =
    let all_of : all ≡ all + 0 = omega arith in
    let q = (h.space 0 (subst (HasSpace old) all_of r)).space in
    record { space = omega (arith, q, e) }

-- ---- all of them

-- so many are given, and so many are left
pub record IsGiving (g : Gifts) (old now : OwnWorld) (done rest : List OwnThing) : Type 0 where
  pub split : done ++ rest ≡ g.things.items
  pub left : IsRoomLeft old now (length g.things.items) (length rest)
  pub given : (l : Lookups) → IsGiven l old g → HasRoom old (length g.things.items) → HasSpace old (length g.things.items) → AreDone l old done now

middle_at : (done : List OwnThing) (t : OwnThing) (rest : List OwnThing) → slice_get (done ++ t ∷ rest) (length done) ≡ Some t
middle_at [] t rest = refl
middle_at (x ∷ xs) t rest = middle_at xs t rest

one_behind : (done : List OwnThing) (t : OwnThing) (rest : List OwnThing) → (done ++ t ∷ []) ++ rest ≡ done ++ t ∷ rest
one_behind [] t rest = refl
one_behind (x ∷ xs) t rest = ap (λ (ts : List OwnThing). x ∷ ts) (one_behind xs t rest)

pub giving_begins : (g : Gifts) (w : OwnWorld) (rest : List OwnThing) → rest ≡ g.things.items → IsGiving g w w [] rest
giving_begins g w rest e = record {
  split = e;
  left = subst (λ (ts : List OwnThing). IsRoomLeft w w (length g.things.items) (length ts)) (sym e) (room_begins w (length g.things.items));
  given = λ l h r s. none_done l w h.sound;
}

pub giving_goes_on : (g : Gifts) (old now next : OwnWorld) (done : List OwnThing) (t : OwnThing) (rest : List OwnThing) → IsGiving g old now done (t ∷ rest) → (HasRoom now 1 → HasSpace now 1 → IsOneGiven now next t)
    → ((count : ℕ) → HasRoom now (count + 1) → HasRoom next count) → ((count : ℕ) → HasSpace now (count + 1) → HasSpace next count) → IsGiving g old next (done ++ t ∷ []) rest
giving_goes_on g old now next done t rest h f room space =
    let one : length (t ∷ rest) ≡ length rest + 1 = omega arith in
    record {
      split = one_behind done t rest ∙ h.split;
      left = room_goes_on old now next (length g.things.items) (length (t ∷ rest)) (length rest) one h.left room space;
      given = λ l is r s.
          let fit = each_fit l old g is (length done) t (ap (λ (ts : List OwnThing). slice_get ts (length done)) (sym h.split) ∙ middle_at done t rest) in
          one_done l old now next done t (h.given l is r s)
          (f (room_now old now (length g.things.items) (length (t ∷ rest)) (length rest) one h.left r) (space_now old now (length g.things.items) (length (t ∷ rest)) (length rest) one h.left s))
          fit.kind fit.short fit.fine;
    }

module _ (g : Gifts) (old now : OwnWorld) (done rest : List OwnThing) (h : IsGiving g old now done rest) (zero : length rest ≡ 0) where
  nothing : (ts : List OwnThing) → length ts ≡ 0 → ts ≡ []
  nothing [] e = refl
  nothing (t ∷ ts) e = absurd (omega (arith, e))

  all_of : done ≡ g.things.items
  all_of = sym (append-nil done) ∙ ap (λ (ts : List OwnThing). done ++ ts) (sym (nothing rest zero)) ∙ h.split

  pub giving_ends : (l : Lookups) → IsGiven l old g → HasRoom old (length g.things.items) → HasSpace old (length g.things.items) → AreGiven l g old now
  giving_ends l is r s = all_done l g old now (subst (λ (ts : List OwnThing). AreDone l old ts now) all_of (h.given l is r s))

  pub room_ends : (count : ℕ) → HasRoom old (length g.things.items + count) → HasRoom now count
  room_ends count r = let e : length rest + count ≡ count = omega (arith, zero) in subst (HasRoom now) e (h.left.room count r)

  pub space_ends : (count : ℕ) → HasSpace old (length g.things.items + count) → HasSpace now count
  space_ends count r = let e : length rest + count ≡ count = omega (arith, zero) in subst (HasSpace now) e (h.left.space count r)
