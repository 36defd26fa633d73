-- What it is that the answers hold of what the machine makes.
use Rattle.std.specs.Prelude.{◌≡◌, ℕ, Bool, true, false, not, ◌%◌, ◌^◌, ◌<◌, ℤ, ◌≤ℤ◌, List, [], ◌∷◌, Option, Some, None}
use Rattle.insn_set.specs.declared.ops.Item.{Item}
use Rattle.insn_set.specs.declared.ops.Test.{Test}
use Rattle.dalvik_defs.specs.Arith.{passes}
use Rattle.dalvik_defs.specs.Items.{stored}
use Rattle.dalvik_defs.specs.Operators.{OneWord, OneWide, Number as Answer}
use Rattle.dalvik_defs.specs.State.{word_of}
use Rattle.dalvik_defs.specs.declared.state.Value.TheVariants as machine
use Rattle.domains.specs.Datum.{Number, Datum, Plain, Single, Double, Object}
use Rattle.domains.specs.Ranges.{first_word, last_word}
use Rattle.domains.specs.Values.{Parts, value_holds}

-- the answer is there and holds of it
abbrev pub HoldsSome : Option Parts → Datum → Type 0
HoldsSome None d = ⊥
HoldsSome (Some x) d = value_holds x d

abbrev pub HoldsBoth : Option (Parts × Parts) → Datum → Datum → Type 0
HoldsBoth None d e = ⊥
HoldsBoth (Some x) d e = value_holds x.0 d × value_holds x.1 e

-- a word of 32 bits, or an object
abbrev pub IsNarrow : Datum → Type 0
IsNarrow (Plain (Single w)) = w < 2 ^ 32
IsNarrow (Plain (Double d)) = ⊥
IsNarrow (Object c) = Unit {0}

-- one word, or one object, of which the type may be known in two ways
abbrev pub AreSame : Datum → Datum → Type 0
AreSame (Plain (Single a)) (Plain (Single b)) = a ≡ b
AreSame (Plain m) e = ⊥
AreSame (Object c) (Object d) = Unit {0}
AreSame (Object c) (Plain m) = ⊥

-- not one word
abbrev pub AreOther : Datum → Datum → Type 0
AreOther (Plain (Single a)) (Plain (Single b)) = a ≡ b → ⊥
AreOther d e = Unit {0}

-- how a test of two words answers
abbrev pub passes_words : Test → ℕ → ℕ → Bool
passes_words t a b = passes t (machine.Word a) (machine.Word b)

-- a signed word is none of some keys, which are words
abbrev pub IsNone : List ℤ → ℤ → Type 0
IsNone [] z = Unit {0}
IsNone (k ∷ ks) z = (k ≡ z → ⊥) × IsNone ks z

abbrev pub AreWords : List ℤ → Type 0
AreWords [] = Unit {0}
AreWords (k ∷ ks) = ((first_word ≤ℤ k) × (k ≤ℤ last_word)) × AreWords ks

-- ---- numbers of either width

abbrev pub size_of : Number → ℕ
size_of (Single a) = a
size_of (Double a) = a

-- what an operator with one operand answers
abbrev pub answer_datum : Answer → Datum
answer_datum (OneWord n) = Plain (Single n)
answer_datum (OneWide n) = Plain (Double n)

-- what an item keeps of a word
abbrev pub kept_word : Item → ℕ → ℕ
kept_word i a = word_of (stored i (machine.Word a))
