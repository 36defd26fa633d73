-- What the tables of a program keep, so that joins are least upper bounds (this project's profile).
use Rattle.std.specs.Prelude.{◌≡◌, ℕ, ◌<◌, ◌≤◌, length, Bool, true, false, ◌&&◌, not, ◌⊎◌, Option, Some, None, if◌then◌else◌}
use Rattle.insn_set.specs.declared.ops.Item.{Item}
use Rattle.insn_set.specs.declared.ops.Item.TheVariants as item
use Rattle.verify.specs.declared.shapes.Shape.{Shape}
use Rattle.verify.specs.declared.shapes.Shape.TheVariants as shape
use Rattle.verify.specs.declared.tables.Tables.{Tables}
use Rattle.verify.specs.Chains.{above, depth, nearest, longest, IsChains}
use Rattle.verify.specs.Flow.{greatest}
use Rattle.verify.specs.Joins.{nearest_place, nearest_item}
use Rattle.verify.specs.Kinds.{same_number}
use Rattle.verify.specs.Shapes.{is_reference, is_plain, place_of}
use Rattle.verify.specs.Types.{shape_in, item_shape, item_of_class}

-- A class is an interface where the item that stands for it is, and then no class stands above it.
abbrev pub is_settled_class : Tables → ℕ → Bool → Bool
is_settled_class t c plain =
    if plain then is_plain (item_shape t (item_of_class t c))
    else not (is_plain (item_shape t (item_of_class t c))) && same_number (above t.chains c) None

abbrev pub is_primitive : Item → Bool
is_primitive item.Object = false
is_primitive i = true

-- what a type without its brackets is: no array, and plain only if it is a class of the program
abbrev pub is_settled : Tables → Shape → Bool
is_settled t (shape.Class (Some c) plain) = is_settled_class t c plain
is_settled t (shape.Class None plain) = not plain
is_settled t (shape.Array depth i) = false
is_settled t (shape.Word i) = is_primitive i
is_settled t s = true

-- Two classes meet at the nearest class of both chains, if there is one. An item stands for each class at which the items of
-- two arrays meet, and the item of arrays of objects is no program class.
pub record IsMeeting (t : Tables) : Type 0 where
  pub chains : IsChains t.chains
  pub itself : (c : ℕ) → nearest t.chains c c ≡ Some c
  pub swaps : (c d : ℕ) → nearest t.chains c d ≡ nearest t.chains d c
  pub groups : (p q r : Option ℕ) → nearest_place t (nearest_place t p q) r ≡ nearest_place t p (nearest_place t q r)
  pub falls : (c d x : ℕ) → nearest t.chains c d ≡ Some x → (x ≡ c) ⊎ depth t.chains x < depth t.chains c
  pub short : (c : ℕ) → depth t.chains c < longest
  pub stands : (i j : Option ℕ) (c : ℕ) → nearest_item t i j ≡ Some c → place_of (item_shape t (item_of_class t c)) ≡ Some c
  pub settled : (k : ℕ) → is_settled t (shape_in t.bases.items k) ≡ true
  pub object : place_of (item_shape t t.object) ≡ None
  pub objects : is_reference (item_shape t t.object) ≡ true

-- ---- where that is so

-- the item that stands for a class says so
abbrev pub stands : Tables → ℕ → Bool
stands t c = same_number (place_of (item_shape t (item_of_class t c))) (Some c)

abbrev pub stands_too : Tables → Option ℕ → Bool
stands_too t None = true
stands_too t (Some c) = stands t c

-- an item stands for the class of a type without its brackets
abbrev pub is_base : Tables → Shape → Bool
is_base t s = stands_too t (place_of s) && is_settled t s

abbrev pub BasesBelow : Tables → ℕ → Type 0
BasesBelow t n = (k : ℕ) → k < n → is_base t (shape_in t.bases.items k) ≡ true

-- items stand for the classes above others
abbrev pub ClassesBelow : Tables → ℕ → Type 0
ClassesBelow t n = (k : ℕ) → k < n → stands_too t (above t.chains k) ≡ true

-- the item of arrays of objects is no program class
abbrev pub has_objects : Tables → Bool
has_objects t = same_number (place_of (item_shape t t.object)) None && is_reference (item_shape t t.object)

-- tables that pass when they are looked over
pub record AreSound (t : Tables) : Type 0 where
  pub types : length t.bases.items ≤ greatest
  pub count : length t.chains.supers.items ≤ greatest
  pub bases : (k : ℕ) → is_base t (shape_in t.bases.items k) ≡ true
  pub classes : (k : ℕ) → stands_too t (above t.chains k) ≡ true
  pub objects : has_objects t ≡ true
