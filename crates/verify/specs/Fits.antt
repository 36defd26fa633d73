-- Which kinds fit a type, by numbers (this project's profile).
use Rattle.std.specs.Prelude.{ℕ, ◌-◌, Bool, true, false, ◌&&◌, ◌||◌, not, nat_eq, nat_lt, Option, Some, None, if◌then◌else◌}
use Rattle.insn_set.specs.declared.ops.Item.{Item}
use Rattle.insn_set.specs.declared.ops.Item.TheVariants as item
use Rattle.verify.specs.declared.kinds.Kind.{Kind}
use Rattle.verify.specs.declared.kinds.Kind.TheVariants.{Zero, Null, Program, Array}
use Rattle.verify.specs.declared.shapes.Shape.{Shape}
use Rattle.verify.specs.declared.shapes.Shape.TheVariants as shape
use Rattle.verify.specs.declared.tables.Tables.{Tables}
use Rattle.verify.specs.Kinds.{same_number, is_number, is_initialised, is_null}
use Rattle.verify.specs.Shapes.{is_reference, is_plain, is_program_interface, stored}
use Rattle.verify.specs.Types.{shape_of, item_shape}
use Rattle.verify.specs.Chains.{is_in_chain}

-- null, or an object of the program class or of one under it
abbrev pub is_below_class : Tables → Kind → ℕ → Bool
is_below_class t Zero c = true
is_below_class t Null c = true
is_below_class t (Program lower) c = is_in_chain t.chains lower c
is_below_class t k c = false

-- items that are program classes and no interfaces
abbrev pub class_fits : Tables → Shape → ℕ → Bool
class_fits t (shape.Class (Some lower) plain) c = plain && is_in_chain t.chains lower c
class_fits t s c = false

abbrev pub reference_fits : Tables → Shape → Shape → Bool
reference_fits t s (shape.Class (Some c) plain) = not plain || class_fits t s c
reference_fits t s u = true

-- an item that is a reference fits one
abbrev pub item_fits : Tables → Shape → Shape → Bool
item_fits t s u = is_reference s && is_reference u && reference_fits t s u

abbrev pub array_fits : Tables → ℕ → Option ℕ → ℕ → ℕ → Bool
array_fits t depth i most upper =
    if nat_eq depth most then (same_number i (Some upper) || item_fits t (item_shape t i) (item_shape t (Some upper)))
    else nat_lt most depth && is_reference (item_shape t (Some upper)) && not (is_plain (item_shape t (Some upper)))

abbrev pub fits_array : Tables → Kind → ℕ → ℕ → Bool
fits_array t Zero most upper = true
fits_array t Null most upper = true
fits_array t (Array depth i) most upper = array_fits t depth i most upper
fits_array t k most upper = false

abbrev pub fits_class : Tables → Kind → Option ℕ → Bool → Bool
fits_class t k (Some c) plain = if plain then is_below_class t k c else is_initialised k
fits_class t k None plain = is_initialised k

-- a value that isn't wide fits what a type is
abbrev pub fits_shape : Tables → Kind → Shape → Bool
fits_shape t k shape.Int = is_number k
fits_shape t k (shape.Word i) = is_number k
fits_shape t k (shape.Array depth i) = fits_array t k depth i
fits_shape t k (shape.Class place plain) = fits_class t k place plain
fits_shape t k s = is_initialised k

abbrev pub fits : Tables → Kind → ℕ → Bool
fits t k type = fits_shape t k (shape_of t type)

-- the receiver of a field's get or put: a field that a program interface names is read and written on null alone
abbrev pub fits_holder : Tables → Kind → ℕ → Bool
fits_holder t k type = fits t k type && (not (is_program_interface (shape_of t type)) || is_null k)

-- how the items of an array are stored
abbrev pub stored_item : Tables → ℕ → Option ℕ → Item
stored_item t depth i = if nat_lt 1 depth then item.Object else stored (item_shape t i)

abbrev pub is_fillable_item : Shape → Bool
is_fillable_item shape.Int = true
is_fillable_item (shape.Class place plain) = true
is_fillable_item s = false

abbrev pub is_fillable_shape : Tables → Shape → Bool
is_fillable_shape t (shape.Array depth i) = nat_lt 1 depth || is_fillable_item (item_shape t (Some i))
is_fillable_shape t s = false

-- an array type whose items are ints or references
abbrev pub is_fillable : Tables → ℕ → Bool
is_fillable t type = is_fillable_shape t (shape_of t type)

abbrev pub fits_item_of : Tables → Kind → Shape → Bool
fits_item_of t k (shape.Array depth i) = if nat_lt 1 depth then fits_array t k (depth - 1) i else fits_shape t k (item_shape t (Some i))
fits_item_of t k s = false

-- a value that isn't wide fits the items of an array type
abbrev pub fits_item : Tables → Kind → ℕ → Bool
fits_item t k type = fits_item_of t k (shape_of t type)
