-- What an event is to show, before and after the world changes.
use Rattle.std.specs.Prelude.{ℕ, ◌≡◌, ◌<◌, ◌≤◌, Bool, true, false, List, [], ◌∷◌, ◌++◌, length, map, Option, Some, None, vec_capacity}
use Rattle.dalvik_lookups.specs.declared.lookups.Lookups.{Lookups}
use Rattle.dalvik_lookups.specs.declared.types.Kind.{Kind}
use Rattle.dalvik_lookups.specs.Views.{type_text, AreTypes}
use Rattle.dalvik_defs.specs.Names.{Text}
use Rattle.dalvik_defs.specs.Show.{place_in, is_printed, show, show_all, show_option, skip, with_given}
use Rattle.dalvik_defs.specs.State.{World, Thing, Items, fresh, kind_of}
use Rattle.dalvik_defs.specs.declared.state.Value.{Value}
use Rattle.dalvik_defs.specs.declared.state.Value.TheVariants.{Object}
use Rattle.dalvik_defs.specs.declared.events.Shown.{Shown}
use Rattle.dalvik_defs.specs.declared.events.Shown.TheVariants as shown
use Rattle.dalvik_state.specs.declared.datum.Datum.{Datum}
use Rattle.dalvik_state.specs.declared.gifts.Gifts.{Gifts}
use Rattle.dalvik_state.specs.declared.shows.Draft.{Draft}
use Rattle.dalvik_state.specs.declared.shows.Draft.TheVariants as draft
use Rattle.dalvik_state.specs.declared.shows.Drafts.{Drafts}
use Rattle.dalvik_state.specs.declared.world.Exposed.{Exposed}
use Rattle.dalvik_state.specs.declared.world.Thing.{Thing as OwnThing}
use Rattle.dalvik_state.specs.declared.world.World.{World as OwnWorld}
use Rattle.dalvik_state.specs.Worlds.{Shape, Plain, Array, Spot, new_spot, place_spot, print_at, shape_of, spots_of}
use Rattle.dalvik_state.specs.States.{AreKinds, IsSound}
use Rattle.dalvik_state.specs.Views.{AreFine, IsFine, Names, names_in, values_of, world_of}

-- what is shown of an object that has been printed, by its place
abbrev pub again : Option ℕ → Shown
again (Some i) = shown.Again i
again None = shown.Null

-- ---- an object that is shown for the first time is printed at its place, or gets the next one

abbrev pub first_place : List Exposed → Option ℕ → ℕ
first_place exposed (Some place) = place
first_place exposed None = length exposed

abbrev pub first_spots : List Spot → List Exposed → ℕ → Option ℕ → List Spot
first_spots spots exposed number (Some place) = spots
first_spots spots exposed number None = place_spot (length exposed) spots number

abbrev pub first_exposed : List Exposed → ℕ → Option ℕ → List Exposed
first_exposed exposed number (Some place) = print_at exposed place
first_exposed exposed number None = exposed ++ record { number = number; printed = true } ∷ []

-- ---- the objects of a move

abbrev pub given_shape : Names → Shape → Thing
given_shape n (Plain kind) = fresh (n.kind kind)
given_shape n (Array kind items) = Items (n.kind kind) (values_of n items)

abbrev pub given_things : Names → List OwnThing → List Thing
given_things n things = map (λ (t : OwnThing). given_shape n (shape_of t)) things

-- an object that is given stands last on the heap and among what was exposed, and isn't printed
abbrev pub given_spots : List Spot → List Exposed → OwnThing → List Spot
given_spots spots exposed t = spots ++ record { shape = shape_of t; place = Some (length exposed) } ∷ []

abbrev pub given_exposed : List Spot → List Exposed → List Exposed
given_exposed spots exposed = exposed ++ record { number = length spots; printed = false } ∷ []

-- things that are given one behind another
abbrev pub give_all : World → List Thing → World
give_all w [] = w
give_all w (t ∷ ts) = give_all (with_given w t) ts

-- the heap with the objects of a move, and the world with them
abbrev pub gift_spots : OwnWorld → Gifts → List Spot
gift_spots w g = spots_of w ++ map new_spot g.things.items

abbrev pub given_world : Names → OwnWorld → Gifts → World
given_world n w g = give_all (world_of n w) (given_things n g.things.items)

-- the text of a type that may be none
abbrev pub kind_text : Lookups → Option Kind → Text
kind_text l o = elim o [ Some k ↦ type_text l.types k | None ↦ [] ]

-- ---- drafts

-- a value that a move may show: of the world with the objects of the move, by the tables of its run
pub record IsDrawn (l : Lookups) (w : OwnWorld) (g : Gifts) (d : Datum) : Type 0 where
  pub types : AreTypes l.types
  pub sound : IsSound l w
  pub kinds : AreKinds l (gift_spots w g)
  pub fine : IsFine (names_in l) (length (gift_spots w g)) d

-- whether an object has been printed
abbrev pub has_printed : World → ℕ → Bool
has_printed w x = elim (place_in w.exposed x) [ Some i ↦ is_printed w.exposed i | None ↦ false ]

abbrev pub DrawnMaybe : Lookups → OwnWorld → Gifts → Option Datum → Type 0
DrawnMaybe l w g None = Unit {0}
DrawnMaybe l w g (Some d) = IsDrawn l w g d

pub record AreDrawn (l : Lookups) (w : OwnWorld) (g : Gifts) (d : Option Datum) : Type 0 where
  pub drawn : DrawnMaybe l w g d

-- what was there is there and is of its type, and what was printed stays so
pub record IsLater (w u : World) : Type 0 where
  pub longer : length w.heap ≤ length u.heap
  pub kinds : (x : ℕ) → x < length w.heap → kind_of u (Object x) ≡ kind_of w (Object x)
  pub printed : (x : ℕ) → has_printed w x ≡ true → has_printed u x ≡ true

-- the text of an object's type, which may be none where it has been printed
abbrev pub IsTyped : World → ℕ → Option Text → Type 0
IsTyped w x (Some t) = t ≡ kind_of w (Object x)
IsTyped w x None = has_printed w x ≡ true

-- an object that is there
pub record IsObject (w : World) (v : Value) (number : ℕ) (kind : Option Text) : Type 0 where
  pub is : v ≡ Object number
  pub there : number < length w.heap
  pub typed : IsTyped w number kind

-- what is shown of a value by a draft, in whatever world the draft is shown
abbrev pub DraftsAs : World → Text → Value → Draft → Type 0
DraftsAs w kind v (draft.Done s) = (u : World) → show u kind v ≡ (u, s)
DraftsAs w kind v (draft.Object number t) = IsObject w v number t

-- a draft of a value of a type in a world; it is one in each later world
pub record IsDraft (w : World) (kind : Text) (v : Value) (d : Draft) : Type 0 where
  pub drafts : DraftsAs w kind v d

abbrev pub DraftsMaybe : World → Text → Option Value → Option Draft → Type 0
DraftsMaybe w kind None None = Unit {0}
DraftsMaybe w kind (Some v) (Some d) = IsDraft w kind v d
DraftsMaybe w kind v d = ⊥

pub record AreDrafts (w : World) (kind : Text) (v : Option Value) (d : Option Draft) : Type 0 where
  pub drafts : DraftsMaybe w kind v d

-- ---- what is shown

-- all but what was exposed and printed stays
pub record Stands (old new : OwnWorld) : Type 0 where
  pub size : length (spots_of new) ≡ length (spots_of old)
  pub fields : new.fields ≡ old.fields
  pub statics : new.statics ≡ old.statics
  pub locks : new.locks ≡ old.locks

-- a value is shown as this
pub record IsShown (l : Lookups) (kind : Text) (v : Value) (old new : OwnWorld) (s : Shown) : Type 0 where
  pub shown : show (world_of (names_in l) old) kind v ≡ (world_of (names_in l) new, s)
  pub sound : IsSound l new
  pub stands : Stands old new

pub record AreShown (l : Lookups) (kind : Text) (v : Option Value) (old new : OwnWorld) (s : Option Shown) : Type 0 where
  pub shown : show_option (world_of (names_in l) old) kind v ≡ (world_of (names_in l) new, s)
  pub sound : IsSound l new
  pub stands : Stands old new

-- ---- the values of a call

-- values that a call may show
pub record AreAllDrawn (l : Lookups) (w : OwnWorld) (values : List Datum) : Type 0 where
  pub types : AreTypes l.types
  pub sound : IsSound l w
  pub fine : AreFine (names_in l) (length (spots_of w)) values

-- their drafts by their types, from left to right; a wide stands in two registers
abbrev pub DraftsOf : World → List Text → List Value → List Draft → Type 0
DraftsOf w [] vs [] = Unit {0}
DraftsOf w (k ∷ ks) [] [] = Unit {0}
DraftsOf w (k ∷ ks) (v ∷ vs) (d ∷ ds) = IsDraft w k v d × DraftsOf w ks (skip k vs) ds
DraftsOf w ks vs ds = ⊥

pub record AreDraftsOf (w : World) (kinds : List Text) (values : List Value) (d : Drafts) : Type 0 where
  pub drafts : DraftsOf w kinds values d.drafts.items
  -- the list that they are shown in is empty, and has room for all of them
  pub empty : d.shown.items ≡ []
  pub room : length d.drafts.items ≤ vec_capacity d.shown

pub record AreAllShown (l : Lookups) (kinds : List Text) (values : List Value) (old new : OwnWorld) (s : List Shown) : Type 0 where
  pub shown : show_all (world_of (names_in l) old) kinds values ≡ (world_of (names_in l) new, s)
  pub sound : IsSound l new
  pub stands : Stands old new
