-- In which range the answer of an operation on two words is, by the ranges of its operands.
use Rattle.std.specs.Prelude.{ℤ, pos, Bool, ◌&&◌, ◌+ℤ◌, ◌-ℤ◌, if◌then◌else◌}
use Rattle.std.specs.Int.RustNames.{int_le}
use Rattle.std.specs.Int.{int_min}
use Rattle.insn_set.specs.declared.ops.LiteralOp.{LiteralOp}
use Rattle.insn_set.specs.declared.ops.LiteralOp.TheVariants.{AddInt, RsubInt, AndInt}
use Rattle.dalvik_defs.specs.Arith.{Kind, Add, Sub, And}
use Rattle.domains.specs.Ranges.{Bounds, all_words, only_word, words_between, first_word, last_word}

-- the range from one number to another, or of all words where one of them is no word
abbrev pub range_or_all : ℤ → ℤ → Bounds
range_or_all low high = if int_le first_word low && int_le high last_word then words_between low high else all_words

abbrev pub sum_range : Bounds → Bounds → Bounds
sum_range a b = range_or_all (a.low +ℤ b.low) (a.high +ℤ b.high)

abbrev pub difference_range : Bounds → Bounds → Bounds
difference_range a b = range_or_all (a.low -ℤ b.high) (a.high -ℤ b.low)

abbrev pub has_no_sign : Bounds → Bool
has_no_sign r = int_le (pos 0) r.low

-- what is left of a number by one without a sign is no more than that one
abbrev pub mask_range : Bounds → Bounds → Bounds
mask_range a b =
    if has_no_sign a && has_no_sign b then words_between (pos 0) (int_min a.high b.high)
    else if has_no_sign a then words_between (pos 0) a.high
    else if has_no_sign b then words_between (pos 0) b.high
    else all_words

abbrev pub range_of : Kind → Bounds → Bounds → Bounds
range_of Add a b = sum_range a b
range_of Sub a b = difference_range a b
range_of And a b = mask_range a b
range_of kind a b = all_words

abbrev pub literal_range : LiteralOp → Bounds → ℤ → Bounds
literal_range AddInt r z = sum_range r (only_word z)
literal_range RsubInt r z = difference_range (only_word z) r
literal_range AndInt r z = mask_range r (only_word z)
literal_range op r z = all_words
