-- What the operators make of values: the exact answer of known operands, nothing of nothing, else a range or any number.
-- A division by what is surely 0 doesn't go on.
use Rattle.std.specs.Prelude.{ℕ, ℤ, pos, negsuc, ◌%◌, ◌^◌, Bool, true, false, ◌==◌, ◌&&◌, ◌||◌, if◌then◌else◌, List, [], Option, Some, None}
use Rattle.std.specs.Option.{option_map}
use Rattle.std.specs.Ordering.{int_eq}
use Rattle.std.specs.Int.{w8, w16, w32, cast_unsigned}
use Rattle.insn_set.specs.declared.ops.Item.{Item}
use Rattle.insn_set.specs.declared.ops.Item.TheVariants as item
use Rattle.insn_set.specs.declared.ops.BinaryOp.{BinaryOp}
use Rattle.insn_set.specs.declared.ops.LiteralOp.{LiteralOp}
use Rattle.insn_set.specs.declared.ops.UnaryOp.{UnaryOp}
use Rattle.insn_set.specs.declared.ops.UnaryOp.TheVariants as unary
use Rattle.insn_set.specs.declared.ops.CmpOp.{CmpOp}
use Rattle.insn_set.specs.declared.ops.CmpOp.TheVariants as cmp
use Rattle.insn_set.specs.Flow.{divides_by_literal}
use Rattle.dalvik_defs.specs.Arith.{Kind, Div, Rem, answer, literal_answer, compared, signed, low_signed}
use Rattle.dalvik_defs.specs.Operators.{Sort, OnWord, OnWide, Shifts, OnFloat, OnDouble, sort_of, Number, OneWord, OneWide, unary_answer}
use Rattle.dalvik_defs.specs.declared.tables.Floats.{Floats}
use Rattle.domains.specs.declared.numbers.Word.{Word}
use Rattle.domains.specs.declared.numbers.Word.TheVariants.{Known, KnownWide}
use Rattle.domains.specs.Ranges.{Bounds, words_between}
use Rattle.domains.specs.Values.{Parts, least_value, constant_value, wide_value}
use Rattle.value_ops.specs.Left.{is_nothing, any_number, number_in, words_of}
use Rattle.value_ops.specs.Sums.{range_of, literal_range}

-- ---- two operands

abbrev pub is_division : Kind → Bool
is_division Div = true
is_division Rem = true
is_division kind = false

abbrev pub is_zero_number : Word → Bool
is_zero_number (Known n) = n == 0
is_zero_number (KnownWide n) = n == 0
is_zero_number x = false

-- two words, two wides, a wide and a word
abbrev pub word_answer : Kind → Word → Word → Bounds → Option Parts
word_answer k (Known a) (Known b) r = option_map constant_value (answer k false a b)
word_answer k x y r = Some (words_of r)

abbrev pub wide_answer : Kind → Word → Word → Option Parts
wide_answer k (KnownWide a) (KnownWide b) = option_map wide_value (answer k true a b)
wide_answer k x y = Some any_number

abbrev pub shift_answer : Kind → Word → Word → Option Parts
shift_answer k (KnownWide a) (Known b) = option_map wide_value (answer k true a b)
shift_answer k x y = Some any_number

abbrev pub stops : Kind → Parts → Bool
stops k y = is_division k && is_zero_number y.word

abbrev pub sorted_value : Sort → Parts → Parts → Option Parts
sorted_value (OnWord k) x y = if stops k y then None else word_answer k x.word y.word (range_of k x.interval y.interval)
sorted_value (OnWide k) x y = if stops k y then None else wide_answer k x.word y.word
sorted_value (Shifts k) x y = if stops k y then None else shift_answer k x.word y.word
sorted_value (OnFloat op) x y = Some any_number
sorted_value (OnDouble op) x y = Some any_number

abbrev pub binary_value : BinaryOp → Parts → Parts → Option Parts
binary_value op x y = if is_nothing x || is_nothing y then None else sorted_value (sort_of op) x y

-- ---- a register and a literal

abbrev pub literal_known : LiteralOp → Option ℕ → Bounds → ℤ → Option Parts
literal_known op (Some n) r z = option_map constant_value (literal_answer op (n % 2 ^ 32) (cast_unsigned w32 z))
literal_known op None r z = Some (words_of (literal_range op r z))

abbrev pub divides_by_zero : LiteralOp → ℤ → Bool
divides_by_zero op z = divides_by_literal op && int_eq z (pos 0)

abbrev pub literal_value : LiteralOp → Parts → ℤ → Option Parts
literal_value op x z = if is_nothing x || divides_by_zero op z then None else literal_known op (number_in x.word) x.interval z

-- ---- one operand

abbrev pub no_floats : Floats
no_floats = record { rows = [] }

abbrev pub number_value : Number → Parts
number_value (OneWord n) = constant_value n
number_value (OneWide n) = wide_value n

-- the operations on int and long, which no table answers
abbrev pub is_exact : UnaryOp → Bool
is_exact unary.NegInt = true
is_exact unary.NotInt = true
is_exact unary.NegLong = true
is_exact unary.NotLong = true
is_exact unary.IntToLong = true
is_exact unary.LongToInt = true
is_exact unary.IntToByte = true
is_exact unary.IntToChar = true
is_exact unary.IntToShort = true
is_exact op = false

-- the words of 8 bits with and without a sign, and of 16
abbrev pub byte_range : Bounds
byte_range = words_between (negsuc 127) (pos 127)

abbrev pub boolean_range : Bounds
boolean_range = words_between (pos 0) (pos 255)

abbrev pub short_range : Bounds
short_range = words_between (negsuc 32767) (pos 32767)

abbrev pub char_range : Bounds
char_range = words_between (pos 0) (pos 65535)

-- what an operation answers where nothing is known of its operand
abbrev pub unknown_answer : UnaryOp → Parts
unknown_answer unary.IntToByte = words_of byte_range
unknown_answer unary.IntToChar = words_of char_range
unknown_answer unary.IntToShort = words_of short_range
unknown_answer op = any_number

abbrev pub unary_known : UnaryOp → Option ℕ → Parts
unary_known op (Some n) = if is_exact op then number_value (unary_answer no_floats op n) else any_number
unary_known op None = unknown_answer op

abbrev pub unary_value : UnaryOp → Parts → Parts
unary_value op x = if is_nothing x then least_value else unary_known op (number_in x.word)

-- ---- comparisons

abbrev pub comparison_of : Word → Word → Parts
comparison_of (KnownWide a) (KnownWide b) = constant_value (compared (signed true a) (signed true b))
comparison_of x y = words_of (words_between (negsuc 0) (pos 1))

abbrev pub compared_known : CmpOp → Word → Word → Parts
compared_known cmp.CmpLong x y = comparison_of x y
compared_known op x y = any_number

abbrev pub compared_value : CmpOp → Parts → Parts → Parts
compared_value op x y = if is_nothing x || is_nothing y then least_value else compared_known op x.word y.word

-- ---- what a field or an item of an array keeps

abbrev pub cut_value : (ℕ → ℕ) → Bounds → Option ℕ → Parts
cut_value cut r (Some n) = constant_value (cut n)
cut_value cut r None = words_of r

abbrev pub kept_value : Item → Parts → Parts
kept_value item.Plain x = x
kept_value item.Wide x = x
kept_value item.Object x = x
kept_value item.Boolean x = cut_value (λ n. n % 2 ^ 8) boolean_range (number_in x.word)
kept_value item.Byte x = cut_value (low_signed w8 8) byte_range (number_in x.word)
kept_value item.Char x = cut_value (λ n. n % 2 ^ 16) char_range (number_in x.word)
kept_value item.Short x = cut_value (low_signed w16 16) short_range (number_in x.word)

abbrev pub stored_value : Item → Parts → Parts
stored_value i x = if is_nothing x then least_value else kept_value i x
