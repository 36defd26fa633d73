-- What is stored in an item of an array or in a field (Dalvik bytecode, "aget", "aput", "iput", "sput").
use Rattle.std.specs.Prelude.{ℕ, ◌%◌, ◌^◌, true, false, List, [], ◌∷◌, ◌++◌, map, drop, length, nat_eq, if◌then◌else◌}
use Rattle.std.specs.Int.{w8, w16}
use Rattle.insn_set.specs.declared.ops.Item.{Item}
use Rattle.insn_set.specs.declared.ops.Item.TheVariants as item
use Rattle.dalvik_defs.specs.Names.{Text, is_wide, is_reference}
use Rattle.dalvik_defs.specs.Arith.{low_signed}
use Rattle.dalvik_defs.specs.State.{Value, Word, Low, word_of}

-- A boolean keeps its low 8 bits and a char its low 16 without sign, a byte its low 8 and a short its low 16 with sign.
abbrev pub stored : Item → Value → Value
stored item.Plain v = v
stored item.Wide v = v
stored item.Object v = v
stored item.Boolean v = Word (word_of v % 2 ^ 8)
stored item.Byte v = Word (low_signed w8 8 (word_of v))
stored item.Char v = Word (word_of v % 2 ^ 16)
stored item.Short v = Word (low_signed w16 16 (word_of v))

-- how items of a type are stored
abbrev pub small_item : ℕ → Item
small_item u =
    if nat_eq u 90 then item.Boolean
    else if nat_eq u 66 then item.Byte
    else if nat_eq u 67 then item.Char
    else if nat_eq u 83 then item.Short
    else item.Plain

abbrev pub item_of_type : Text → Item
item_of_type [] = item.Plain
item_of_type (u ∷ us) =
    if is_wide (u ∷ us) then item.Wide
    else if is_reference (u ∷ us) then item.Object
    else small_item u

-- the bits of an item of a type, as an array is filled with them
abbrev pub filled : Text → ℕ → Value
filled kind n = elim (is_wide kind) [ true ↦ Low n | false ↦ stored (item_of_type kind) (Word (n % 2 ^ 32)) ]

-- the first items of an array are filled, and the others stay
abbrev pub fill : Text → List ℕ → List Value → List Value
fill kind ns vs = map (filled kind) ns ++ drop (length ns) vs
