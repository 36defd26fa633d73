-- What the tables of a program say of its types, protos and methods.
use Rattle.std.specs.Prelude.{ℕ, ◌-◌, Bool, false, nat_lt, List, Option, Some, None, slice_get, slice_index, slice_index_or, option_and_then, if◌then◌else◌}
use Rattle.verify.specs.declared.kinds.Kind.{Kind}
use Rattle.verify.specs.declared.kinds.Kind.TheVariants as kind
use Rattle.verify.specs.declared.shapes.Shape.{Shape}
use Rattle.verify.specs.declared.shapes.Shape.TheVariants.{Void, Int, Word, Wide, Class, Array}
use Rattle.verify.specs.declared.tables.Tables.{Tables}

abbrev pub shape_in : List Shape → ℕ → Shape
shape_in shapes k = slice_index_or shapes k Void

abbrev pub shape_of : Tables → ℕ → Shape
shape_of t k = shape_in t.shapes.items k

-- what the items of an array are without their brackets
abbrev pub item_shape : Tables → Option ℕ → Shape
item_shape t (Some k) = shape_in t.bases.items k
item_shape t None = Class None false

-- the item of arrays of a program class
abbrev pub item_of_class : Tables → ℕ → Option ℕ
item_of_class t c = option_and_then (λ k. slice_get t.items.items k) (slice_get t.classes.items c)

abbrev pub kind_of_class : Option ℕ → Bool → Kind
kind_of_class (Some c) plain = if plain then kind.Program c else kind.Reference
kind_of_class None plain = kind.Reference

abbrev pub kind_of_shape : Shape → Kind
kind_of_shape Void = kind.Undefined
kind_of_shape Int = kind.Word
kind_of_shape (Word i) = kind.Word
kind_of_shape Wide = kind.WideLow
kind_of_shape (Class place plain) = kind_of_class place plain
kind_of_shape (Array depth i) = kind.Array depth (Some i)

-- the kind of a type; the low half stands for both halves of a wide
abbrev pub kind_of : Tables → ℕ → Kind
kind_of t k = kind_of_shape (shape_of t k)

abbrev pub reference_kind : Shape → Kind
reference_kind (Class place plain) = kind_of_class place plain
reference_kind (Array depth i) = kind.Array depth (Some i)
reference_kind s = kind.Reference

-- the kind of an object that is cast to a type: null alone can be cast to one that is no class and no array
abbrev pub cast_kind : Tables → ℕ → Kind
cast_kind t k = reference_kind (shape_of t k)

-- the kind of an item of an array
abbrev pub kind_of_item : Tables → ℕ → Option ℕ → Kind
kind_of_item t depth i = if nat_lt 1 depth then kind.Array (depth - 1) i else kind_of_shape (item_shape t i)

abbrev pub proto_words : Tables → ℕ → ℕ
proto_words t proto = slice_index t.words.items proto

-- the method's name is <init>
abbrev pub is_constructor : Tables → ℕ → Bool
is_constructor t m = slice_index_or t.constructors.items m false
