-- What a type is (Dalvik executable format, "TypeDescriptor").
use Rattle.std.specs.Prelude.{ℕ, Bool, true, false, not, nat_eq, Option, Some, None}
use Rattle.insn_set.specs.declared.ops.Item.{Item}
use Rattle.insn_set.specs.declared.ops.Item.TheVariants as item
use Rattle.verify.specs.declared.shapes.Shape.{Shape}
use Rattle.verify.specs.declared.shapes.Shape.TheVariants.{Void, Int, Word, Wide, Class, Array}

abbrev pub is_void : Shape → Bool
is_void Void = true
is_void s = false

-- a primitive type of one register
abbrev pub is_word : Shape → Bool
is_word Int = true
is_word (Word i) = true
is_word s = false

abbrev pub is_wide : Shape → Bool
is_wide Wide = true
is_wide s = false

abbrev pub is_reference : Shape → Bool
is_reference (Class place plain) = true
is_reference (Array depth item) = true
is_reference s = false

abbrev pub is_array : Shape → Bool
is_array (Array depth item) = true
is_array s = false

-- a program class that is no interface
abbrev pub is_plain : Shape → Bool
is_plain (Class place plain) = plain
is_plain s = false

abbrev pub is_program_interface : Shape → Bool
is_program_interface (Class (Some c) plain) = not plain
is_program_interface s = false

abbrev pub place_of : Shape → Option ℕ
place_of (Class place plain) = place
place_of s = None

-- how an item of the type is stored
abbrev pub stored : Shape → Item
stored (Word i) = i
stored Wide = item.Wide
stored (Class place plain) = item.Object
stored (Array depth i) = item.Object
stored s = item.Plain

-- whether an item is primitive and has so many bytes
abbrev pub has_width : ℕ → Item → Bool
has_width n item.Plain = nat_eq n 4
has_width n item.Wide = nat_eq n 8
has_width n item.Object = false
has_width n item.Boolean = nat_eq n 1
has_width n item.Byte = nat_eq n 1
has_width n item.Char = nat_eq n 2
has_width n item.Short = nat_eq n 2
