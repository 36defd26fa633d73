-- The types of this crate as the definitions have them, and what two operands of a sort answer.
use Rattle.std.specs.Prelude.{ℕ, ◌%◌, ◌^◌, true, false, Option, Some}
use Rattle.std.specs.Option.{option_map}
use Rattle.dalvik_defs.specs.Arith.{Kind, Add, Sub, Mul, Div, Rem, And, Or, Xor, Shl, Shr, Ushr, answer}
use Rattle.dalvik_defs.specs.Operators.{Sort, OnWord, OnWide, Shifts, OnFloat, OnDouble, Number, OneWord, OneWide, float_word, float_wide}
use Rattle.dalvik_defs.specs.declared.tables.Floats.{Floats}
use Rattle.dalvik_numbers.specs.declared.arith.Arith.{Arith}
use Rattle.dalvik_numbers.specs.declared.arith.Arith.TheVariants as arith
use Rattle.dalvik_numbers.specs.declared.operators.Sort.{Sort as OwnSort}
use Rattle.dalvik_numbers.specs.declared.operators.Sort.TheVariants as sort
use Rattle.dalvik_numbers.specs.declared.operators.Number.{Number as OwnNumber}
use Rattle.dalvik_numbers.specs.declared.operators.Number.TheVariants as number

abbrev pub kind_of : Arith → Kind
kind_of arith.Add = Add
kind_of arith.Sub = Sub
kind_of arith.Mul = Mul
kind_of arith.Div = Div
kind_of arith.Rem = Rem
kind_of arith.And = And
kind_of arith.Or = Or
kind_of arith.Xor = Xor
kind_of arith.Shl = Shl
kind_of arith.Shr = Shr
kind_of arith.Ushr = Ushr

abbrev pub sort_is : OwnSort → Sort
sort_is (sort.OnWord k) = OnWord (kind_of k)
sort_is (sort.OnWide k) = OnWide (kind_of k)
sort_is (sort.Shifts k) = Shifts (kind_of k)
sort_is (sort.OnFloat op) = OnFloat op
sort_is (sort.OnDouble op) = OnDouble op

abbrev pub number_is : OwnNumber → Number
number_is (number.OneWord n) = OneWord n
number_is (number.OneWide n) = OneWide n

-- an operation on ints takes the low 32 bits
abbrev pub answered : Floats → Sort → ℕ → ℕ → Option Number
answered floats (OnWord k) a b = option_map OneWord (answer k false (a % 2 ^ 32) (b % 2 ^ 32))
answered floats (OnWide k) a b = option_map OneWide (answer k true a b)
answered floats (Shifts k) a b = option_map OneWide (answer k true a b)
answered floats (OnFloat op) a b = Some (OneWord (float_word floats op a b))
answered floats (OnDouble op) a b = Some (OneWide (float_wide floats op a b))
