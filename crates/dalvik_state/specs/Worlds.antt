-- The heap of a run by numbers, as lists.
use Rattle.std.specs.Prelude.{ℕ, zero, suc, ◌≡◌, ◌+◌, ◌<◌, ◌^◌, Bool, true, false, min, List, [], ◌∷◌, ◌++◌, map, length, Option, Some, None, slice_get, slice_set}
use Rattle.std.specs.Option.{option_map, option_and_then}
use Rattle.insn_set.specs.declared.ops.Item.{Item}
use Rattle.dalvik_lookups.specs.declared.types.Kind.{Kind}
use Rattle.dalvik_state.specs.declared.datum.Datum.{Datum}
use Rattle.dalvik_state.specs.declared.datum.Datum.TheVariants as datum
use Rattle.dalvik_state.specs.Frames.{fill_in}
use Rattle.dalvik_state.specs.declared.world.Thing.{Thing}
use Rattle.dalvik_state.specs.declared.world.Thing.TheVariants as thing
use Rattle.dalvik_state.specs.declared.world.Cell.{Cell}
use Rattle.dalvik_state.specs.declared.world.Exposed.{Exposed}
use Rattle.dalvik_state.specs.declared.world.World.{World}
use Rattle.dalvik_state.specs.declared.effect.Effect.{Effect}
use Rattle.dalvik_state.specs.declared.effect.Effect.TheVariants as effect

pub data Shape : Type 0 where
  Plain : (kind : Kind) → Shape
  Array : (kind : Kind) (items : List Datum) → Shape

abbrev pub shape_of : Thing → Shape
shape_of (thing.Instance kind) = Plain kind
shape_of (thing.Items kind items) = Array kind items.items

-- a thing, and its place among the exposed ones
pub record Spot : Type 0 where
  pub shape : Shape
  pub place : Option ℕ

abbrev pub spot_of : Cell → Spot
spot_of c = record { shape = shape_of c.thing; place = c.place }

-- a thing that isn't exposed
abbrev pub new_spot : Thing → Spot
new_spot t = record { shape = shape_of t; place = None }

abbrev pub spots_of : World → List Spot
spots_of w = map spot_of w.heap.items

-- what a value refers to
abbrev pub shape_at : List Spot → Datum → Option Shape
shape_at spots (datum.Object n) = option_map (λ (s : Spot). s.shape) (slice_get spots n)
shape_at spots d = None

-- the length of an array is a word
abbrev pub IsShortShape : Shape → Type 0
IsShortShape (Plain kind) = Unit {0}
IsShortShape (Array kind items) = length items < 2 ^ 32

pub record IsShort (spots : List Spot) : Type 0 where
  pub at : (i : ℕ) (s : Spot) → slice_get spots i ≡ Some s → IsShortShape s.shape

-- the type of a thing; no array is as deep as the largest number
abbrev pub kind_of_shape : Shape → Kind
kind_of_shape (Plain kind) = kind
kind_of_shape (Array kind items) = record { depth = min (kind.depth + 1) 18446744073709551615; base = kind.base }

-- the type of what a value refers to, none of a number
abbrev pub kind_in : List Spot → Datum → Option Kind
kind_in spots (datum.Object n) = option_map (λ (s : Spot). kind_of_shape s.shape) (slice_get spots n)
kind_in spots (datum.Literal n) = Some (record { depth = 0; base = 1 })
kind_in spots (datum.Class n) = Some (record { depth = 0; base = 2 })
kind_in spots d = None

-- an item of an array is written
abbrev pub put_shape : ℕ → Datum → Shape → Shape
put_shape place d (Array kind items) = Array kind (slice_set items place d)
put_shape place d (Plain kind) = Plain kind

-- the first items of an array are filled with some bits
abbrev pub fill_shape : Item → List ℕ → Shape → Shape
fill_shape item bits (Array kind items) = Array kind (fill_in item bits items)
fill_shape item bits (Plain kind) = Plain kind

-- the thing with a number is changed
abbrev pub reshape : (Shape → Shape) → List Spot → ℕ → List Spot
reshape f [] i = []
reshape f (s ∷ ss) zero = record s { shape = f s.shape } ∷ ss
reshape f (s ∷ ss) (suc i) = s ∷ reshape f ss i

-- what a value refers to is changed
abbrev pub reshape_at : (Shape → Shape) → List Spot → Datum → List Spot
reshape_at f spots (datum.Object n) = reshape f spots n
reshape_at f spots d = spots

-- ---- what was exposed

-- the place of a thing among what was exposed
abbrev pub place_at : List Spot → ℕ → Option ℕ
place_at spots n = option_and_then (λ (s : Spot). s.place) (slice_get spots n)

abbrev pub printed_at : List Exposed → Option ℕ → Bool
printed_at exposed None = false
printed_at exposed (Some place) = elim (slice_get exposed place) [ Some e ↦ e.printed | None ↦ false ]

-- the thing with a number gets a place
abbrev pub place_spot : ℕ → List Spot → ℕ → List Spot
place_spot place [] i = []
place_spot place (s ∷ ss) zero = record s { place = Some place } ∷ ss
place_spot place (s ∷ ss) (suc i) = s ∷ place_spot place ss i

-- what stands at a place has been printed
abbrev pub print_at : List Exposed → ℕ → List Exposed
print_at [] i = []
print_at (e ∷ es) zero = record e { printed = true } ∷ es
print_at (e ∷ es) (suc i) = e ∷ print_at es i

-- the places and what was exposed are these, and all else stays
pub record IsExposed (old new : World) (spots : List Spot) (seen : List Exposed) : Type 0 where
  pub heap : spots_of new ≡ spots
  pub fields : new.fields ≡ old.fields
  pub statics : new.statics ≡ old.statics
  pub locks : new.locks ≡ old.locks
  pub exposed : new.exposed.items ≡ seen

-- the heap is this, and all else stays
pub record IsHeap (old new : World) (spots : List Spot) : Type 0 where
  pub heap : spots_of new ≡ spots
  pub fields : new.fields ≡ old.fields
  pub statics : new.statics ≡ old.statics
  pub locks : new.locks ≡ old.locks
  pub exposed : new.exposed ≡ old.exposed

-- nothing has changed
abbrev pub IsSameWorld : World → World → Type 0
IsSameWorld old new = IsHeap old new (spots_of old)

abbrev pub keeps_world : Effect → World → World → Type 0
keeps_world effect.Goes old new = Unit {0}
keeps_world e old new = IsSameWorld old new

-- an instruction that doesn't go on in its frame leaves the world as it was
pub record LeavesWorld (e : Effect) (old new : World) : Type 0 where
  pub kept : keeps_world e old new
