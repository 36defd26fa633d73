-- Flat values, and what forms make of them (Dalvik bytecode, "Summary of bytecode set").
use Rattle.std.specs.Prelude.{◌≡◌, ℕ, ◌%◌, ◌^◌, ℤ, Bool, true, false, if◌then◌else◌, nat_eq, [], Option, Some, None}
use Rattle.std.specs.Int.{w32, cast_unsigned}
use Rattle.insn_set.specs.declared.ops.Test.{Test}
use Rattle.insn_set.specs.declared.ops.CmpOp.{CmpOp}
use Rattle.insn_set.specs.declared.ops.CmpOp.TheVariants as cmp
use Rattle.insn_set.specs.declared.ops.UnaryOp.{UnaryOp}
use Rattle.insn_set.specs.declared.ops.UnaryOp.TheVariants as unary
use Rattle.insn_set.specs.declared.ops.BinaryOp.{BinaryOp}
use Rattle.insn_set.specs.declared.ops.LiteralOp.{LiteralOp}
use Rattle.insn_set.specs.declared.ops.Item.{Item}
use Rattle.dalvik_defs.specs.Arith.{answer, literal_answer, compared, signed, passes}
use Rattle.dalvik_defs.specs.Operators.{Sort, OnWord, OnWide, Shifts, OnFloat, OnDouble, sort_of, Number, OneWord, OneWide, unary_answer}
use Rattle.dalvik_defs.specs.Items.{stored}
use Rattle.dalvik_defs.specs.declared.state.Value.{Value}
use Rattle.dalvik_defs.specs.declared.state.Value.TheVariants.{Word, Low}
use Rattle.dalvik_defs.specs.declared.tables.Floats.{Floats}

pub data Flat : Type 0 where
  Bottom : Flat
  KnownWord : (n : ℕ) → Flat
  KnownWide : (n : ℕ) → Flat
  Any : Flat

-- at or below
abbrev pub FlatBelow : Flat → Flat → Type 0
FlatBelow Bottom y = Unit {0}
FlatBelow x Any = Unit {0}
FlatBelow (KnownWord a) (KnownWord b) = a ≡ b
FlatBelow (KnownWide a) (KnownWide b) = a ≡ b
FlatBelow x y = ⊥

abbrev pub flat_joined : Flat → Flat → Flat
flat_joined Bottom y = y
flat_joined x Bottom = x
flat_joined (KnownWord a) (KnownWord b) = if nat_eq a b then KnownWord a else Any
flat_joined (KnownWide a) (KnownWide b) = if nat_eq a b then KnownWide a else Any
flat_joined x y = Any

-- the flat value of what a register holds; references and high halves aren't known
abbrev pub flat_of : Value → Flat
flat_of (Word n) = KnownWord n
flat_of (Low n) = KnownWide n
flat_of v = Any

-- ---- exact results of known operands; where an operand is Bottom the result is, else it is Any

abbrev pub word_or_none : Option ℕ → Flat
word_or_none (Some n) = KnownWord n
word_or_none None = Bottom

abbrev pub wide_or_none : Option ℕ → Flat
wide_or_none (Some n) = KnownWide n
wide_or_none None = Bottom

abbrev pub of_words : (ℕ → ℕ → Flat) → Flat → Flat → Flat
of_words f Bottom y = Bottom
of_words f x Bottom = Bottom
of_words f (KnownWord a) (KnownWord b) = f a b
of_words f x y = Any

abbrev pub of_wides : (ℕ → ℕ → Flat) → Flat → Flat → Flat
of_wides f Bottom y = Bottom
of_wides f x Bottom = Bottom
of_wides f (KnownWide a) (KnownWide b) = f a b
of_wides f x y = Any

-- a wide and a word
abbrev pub of_shift : (ℕ → ℕ → Flat) → Flat → Flat → Flat
of_shift f Bottom y = Bottom
of_shift f x Bottom = Bottom
of_shift f (KnownWide a) (KnownWord b) = f a b
of_shift f x y = Any

abbrev pub of_number : (ℕ → Flat) → Flat → Flat
of_number f Bottom = Bottom
of_number f (KnownWord n) = f n
of_number f (KnownWide n) = f n
of_number f Any = Any

-- operations on int take the low 32 bits of what a register holds, as the machine does
abbrev pub flat_sort : Sort → Flat → Flat → Flat
flat_sort (OnWord k) x y = of_words (λ a b. word_or_none (answer k false (a % 2 ^ 32) (b % 2 ^ 32))) x y
flat_sort (OnWide k) x y = of_wides (λ a b. wide_or_none (answer k true a b)) x y
flat_sort (Shifts k) x y = of_shift (λ a b. wide_or_none (answer k true a b)) x y
flat_sort (OnFloat op) x y = Any
flat_sort (OnDouble op) x y = Any

abbrev pub flat_binary : BinaryOp → Flat → Flat → Flat
flat_binary op x y = flat_sort (sort_of op) x y

abbrev pub flat_literal : LiteralOp → Flat → ℤ → Flat
flat_literal op x z = of_number (λ n. word_or_none (literal_answer op (n % 2 ^ 32) (cast_unsigned w32 z))) x

abbrev pub flat_compared : CmpOp → Flat → Flat → Flat
flat_compared cmp.CmpLong x y = of_wides (λ a b. KnownWord (compared (signed true a) (signed true b))) x y
flat_compared op x y = Any

-- the operations on int and long
abbrev pub is_exact : UnaryOp → Bool
is_exact unary.NegInt = true
is_exact unary.NotInt = true
is_exact unary.NegLong = true
is_exact unary.NotLong = true
is_exact unary.IntToLong = true
is_exact unary.LongToInt = true
is_exact unary.IntToByte = true
is_exact unary.IntToChar = true
is_exact unary.IntToShort = true
is_exact op = false

abbrev pub no_floats : Floats
no_floats = record { rows = [] }

abbrev pub flat_number : Number → Flat
flat_number (OneWord n) = KnownWord n
flat_number (OneWide n) = KnownWide n

abbrev pub flat_unary : UnaryOp → Flat → Flat
flat_unary op x = if is_exact op then of_number (λ n. flat_number (unary_answer no_floats op n)) x else Any

-- what a field keeps
abbrev pub flat_stored : Item → Flat → Flat
flat_stored i (KnownWord n) = flat_of (stored i (Word n))
flat_stored i (KnownWide n) = flat_of (stored i (Low n))
flat_stored i x = x

-- ---- branches

-- the one outcome of a test of two known words
abbrev pub flat_outcome : Test → Flat → Flat → Option Bool
flat_outcome test (KnownWord a) (KnownWord b) = Some (passes test (Word a) (Word b))
flat_outcome test x y = None

abbrev pub flat_known : Flat → Option ℕ
flat_known (KnownWord n) = Some n
flat_known x = None

abbrev pub flat_zero : Flat → Bool
flat_zero (KnownWord n) = nat_eq n 0
flat_zero (KnownWide n) = nat_eq n 0
flat_zero x = false
