-- The least kind at or above two kinds, by numbers (this project's profile).
use Rattle.std.specs.Prelude.{ℕ, Bool, ◌&&◌, ◌||◌, not, nat_eq, Option, Some, None, if◌then◌else◌}
use Rattle.verify.specs.declared.kinds.Kind.{Kind}
use Rattle.verify.specs.declared.kinds.Kind.TheVariants.{Undefined, Word, Zero, Null, Program, Array, Reference}
use Rattle.verify.specs.declared.tables.Tables.{Tables}
use Rattle.verify.specs.Kinds.{same_kind, is_number, is_initialised}
use Rattle.verify.specs.Shapes.{is_reference, place_of}
use Rattle.verify.specs.Types.{item_shape, item_of_class}
use Rattle.verify.specs.Chains.{nearest}

abbrev pub class_or_reference : Option ℕ → Kind
class_or_reference (Some c) = Program c
class_or_reference None = Reference

-- a program class and something else on which a constructor was called
abbrev pub joined_class : Tables → ℕ → Kind → Kind
joined_class t c Zero = Program c
joined_class t c Null = Program c
joined_class t c (Program d) = class_or_reference (nearest t.chains c d)
joined_class t c k = Reference

abbrev pub nearest_place : Tables → Option ℕ → Option ℕ → Option ℕ
nearest_place t (Some a) (Some b) = nearest t.chains a b
nearest_place t a b = None

-- the nearest program class above the items of two arrays
abbrev pub nearest_item : Tables → Option ℕ → Option ℕ → Option ℕ
nearest_item t i j = nearest_place t (place_of (item_shape t i)) (place_of (item_shape t j))

-- an array of one dimension with primitive items
abbrev pub is_flat : Tables → ℕ → Option ℕ → Bool
is_flat t depth i = nat_eq depth 1 && not (is_reference (item_shape t i))

abbrev pub joined_deep : Tables → ℕ → Option ℕ → ℕ → Option ℕ → Kind
joined_deep t m i n j = if is_flat t m i || is_flat t n j then Reference else Array 1 t.object

abbrev pub joined_items : Tables → ℕ → Option ℕ → ℕ → Option ℕ → Option ℕ → Kind
joined_items t m i n j (Some c) = Array m (item_of_class t c)
joined_items t m i n j None = joined_deep t m i n j

abbrev pub joined_arrays : Tables → ℕ → Option ℕ → ℕ → Option ℕ → Kind
joined_arrays t m i n j = if nat_eq m n then joined_items t m i n j (nearest_item t i j) else joined_deep t m i n j

abbrev pub joined_array : Tables → ℕ → Option ℕ → Kind → Kind
joined_array t m i Zero = Array m i
joined_array t m i Null = Array m i
joined_array t m i (Array n j) = joined_arrays t m i n j
joined_array t m i k = Reference

-- null and something else
abbrev pub joined_null : Kind → Kind
joined_null Zero = Null
joined_null k = k

-- two unlike references on which constructors were called
abbrev pub joined_references : Tables → Kind → Kind → Kind
joined_references t Zero b = b
joined_references t Null b = joined_null b
joined_references t (Program c) b = joined_class t c b
joined_references t (Array m i) b = joined_array t m i b
joined_references t a b = Reference

abbrev pub joined : Tables → Kind → Kind → Kind
joined t a b =
    if same_kind a b then a
    else if is_number a && is_number b then Word
    else if is_initialised a && is_initialised b then joined_references t a b
    else Undefined
