-- What an instruction on numbers does (Dalvik bytecode, "unop", "binop", "cmpkind").
use Rattle.std.specs.Prelude.{ℕ, ℤ, Option, Some, None, ◌%◌, ◌^◌}
use Rattle.std.specs.Int.{w32, cast_unsigned}
use Rattle.insn_set.specs.declared.ops.LiteralOp.{LiteralOp}
use Rattle.dalvik_defs.specs.Known.{arithmetic_exception}
use Rattle.dalvik_defs.specs.Arith.{answer, literal_answer}
use Rattle.dalvik_defs.specs.Operators.{Sort, OnWord, OnWide, Shifts, OnFloat, OnDouble, float_word, float_wide, Number, OneWord, OneWide}
use Rattle.dalvik_defs.specs.State.{World, Word, Frame, word_of}
use Rattle.dalvik_defs.specs.Effect.{Effect, Faults, register, sets, sets_wide}
use Rattle.dalvik_defs.specs.declared.tables.Floats.{Floats}
use Rattle.std.specs.Prelude.{true, false}

-- a number that a register or a pair holds
abbrev pub number : Frame → ℕ → ℕ
number f r = word_of (register f r)

-- the low 32 bits of it, which an operation on ints takes
abbrev pub word : Frame → ℕ → ℕ
word f r = number f r % 2 ^ 32

-- an operation without an answer is a division by 0
abbrev pub gives_word : Option ℕ → World → Frame → ℕ → Effect
gives_word None w f to = Faults arithmetic_exception
gives_word (Some n) w f to = sets w f to (Word n)

abbrev pub gives_wide : Option ℕ → World → Frame → ℕ → Effect
gives_wide None w f to = Faults arithmetic_exception
gives_wide (Some n) w f to = sets_wide w f to n

abbrev pub binary : Floats → Sort → World → Frame → ℕ → ℕ → ℕ → Effect
binary floats (OnWord k) w f to a b = gives_word (answer k false (word f a) (word f b)) w f to
binary floats (OnWide k) w f to a b = gives_wide (answer k true (number f a) (number f b)) w f to
binary floats (Shifts k) w f to a b = gives_wide (answer k true (number f a) (number f b)) w f to
binary floats (OnFloat op) w f to a b = gives_word (Some (float_word floats op (number f a) (number f b))) w f to
binary floats (OnDouble op) w f to a b = gives_wide (Some (float_wide floats op (number f a) (number f b))) w f to

abbrev pub literal : LiteralOp → World → Frame → ℕ → ℕ → ℤ → Effect
literal op w f to a z = gives_word (literal_answer op (word f a) (cast_unsigned w32 z)) w f to

abbrev pub sets_number : Number → World → Frame → ℕ → Effect
sets_number (OneWord n) w f to = sets w f to (Word n)
sets_number (OneWide n) w f to = sets_wide w f to n
