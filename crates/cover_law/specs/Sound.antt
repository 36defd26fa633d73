-- What it is that an analysis is sound on operands such as the typing has them: words of 32 bits and wides where numbers are
-- asked for, words and objects where a register is tested. (Dalvik bytecode, "Summary of bytecode set".)
use Rattle.std.specs.Prelude.{◌≡◌, ◌||◌, ◌%◌, ◌<◌, ◌^◌, ◌≤ℤ◌, ℕ, ℤ, Bool, true, false, List, [], ◌∷◌, Some}
use Rattle.std.specs.Int.{w32, cast_unsigned}
use Rattle.insn_set.specs.declared.ops.BinaryOp.{BinaryOp}
use Rattle.insn_set.specs.declared.ops.CmpOp.{CmpOp}
use Rattle.insn_set.specs.declared.ops.Item.{Item}
use Rattle.insn_set.specs.declared.ops.Item.TheVariants as item
use Rattle.insn_set.specs.declared.ops.LiteralOp.{LiteralOp}
use Rattle.insn_set.specs.declared.ops.Test.{Test}
use Rattle.insn_set.specs.declared.ops.UnaryOp.{UnaryOp}
use Rattle.insn_set.specs.Widths.{unary_reads_wide, binary_is_wide, second_is_wide, compares_wide}
use Rattle.dalvik_defs.specs.Arith.{signed, passes, literal_answer}
use Rattle.dalvik_defs.specs.Items.{stored}
use Rattle.dalvik_defs.specs.Names.{Text}
use Rattle.dalvik_defs.specs.Operators.{sort_of, unary_answer, comparison}
use Rattle.dalvik_defs.specs.State.{is_null, word_of}
use Rattle.dalvik_defs.specs.declared.state.Value.{Value}
use Rattle.dalvik_defs.specs.declared.state.Value.TheVariants.{Word, Low, High, Object}
use Rattle.dalvik_defs.specs.declared.tables.Floats.{Floats}
use Rattle.domains.specs.Ranges.{first_word, last_word}
use Rattle.pass_defs.specs.Analysis.{Analysis, Holds, HoldsBoth, IsNone, IsRanged, IsReference, on_number, on_sort, read_item}
use Rattle.pass_defs.specs.Demands.{is_equality}

abbrev pub IsWord : Value → Type 0
IsWord (Word n) = n < 2 ^ 32
IsWord v = ⊥

abbrev pub IsWide : Value → Type 0
IsWide (Low n) = Unit {0}
IsWide v = ⊥

-- a wide number, or a word
abbrev pub NumberOf : Bool → Value → Type 0
NumberOf true v = IsWide v
NumberOf false v = IsWord v

-- a word or an object
abbrev pub IsNarrow : Value → Type 0
IsNarrow (Word n) = n < 2 ^ 32
IsNarrow (Low n) = ⊥
IsNarrow (High n) = ⊥
IsNarrow v = Unit {0}

-- what is tested for equality, or for order
abbrev pub TestedOf : Bool → Value → Type 0
TestedOf true v = IsNarrow v
TestedOf false v = IsWord v

-- what is stored as an item, of which the small ones are words
abbrev pub Storable : Item → Value → Type 0
Storable item.Plain v = Unit {0}
Storable item.Wide v = Unit {0}
Storable item.Object v = Unit {0}
Storable i v = IsWord v

-- a number of 32 bits with its sign
abbrev pub IsSmall : ℤ → Type 0
IsSmall z = (first_word ≤ℤ z) × (z ≤ℤ last_word)

abbrev pub AreSmall : List ℤ → Type 0
AreSmall [] = Unit {0}
AreSmall (z ∷ zs) = IsSmall z × AreSmall zs

pub record IsSoundOn {V : Type 0} (a : Analysis V) (under : Text → Text → Bool) (floats : Floats) : Type 0 where
  pub grows : (x y : V) (k : Text) (v : Value) → a.below x y → a.holds x k v → a.holds y k v
  pub all : (k : Text) (v : Value) → IsRanged v → a.holds a.any k v
  pub knows : (k : Text) (v : Value) → a.holds (a.known v) k v
  pub makes : (t : Text) (n : ℕ) → a.holds (a.made t) t (Object n)
  pub lengths : (k : Text) (n : ℕ) → n < 2 ^ 31 → a.holds a.length k (Word n)
  pub truths : (k : Text) → a.holds a.truth k (Word 0) × a.holds a.truth k (Word 1)
  pub items : (i : Item) (k : Text) (v : Value) → IsRanged (read_item a i v) → a.holds (a.item i) k (read_item a i v)
  pub outers : (t k : Text) (v : Value) → IsRanged v → a.holds (a.outer t) k v
  pub catches : (k : Text) (v : Value) → IsReference v → a.holds a.caught k v
  pub unaries : (op : UnaryOp) (x : V) (k l : Text) (v : Value) → NumberOf (unary_reads_wide op) v → a.holds x k v → a.holds (a.unary op x) l (on_number (unary_answer floats op (word_of v)))
  pub binaries : (op : BinaryOp) (x y : V) (k l m : Text) (v u z : Value) → NumberOf (binary_is_wide op) v → NumberOf (second_is_wide op) u → a.holds x k v → a.holds y l u
      → on_sort floats (sort_of op) (word_of v) (word_of u) ≡ Some z → Holds a (a.binary op x y) m z
  pub literals : (op : LiteralOp) (x : V) (c : ℤ) (k l : Text) (v : Value) (n : ℕ) → IsWord v → IsSmall c → a.holds x k v → literal_answer op (word_of v % 2 ^ 32) (cast_unsigned w32 c) ≡ Some n → Holds a (a.literal op x c) l (Word n)
  pub comparisons : (op : CmpOp) (x y : V) (k l m : Text) (v u : Value) → NumberOf (compares_wide op) v → NumberOf (compares_wide op) u → a.holds x k v → a.holds y l u
      → a.holds (a.compared op x y) m (Word (comparison floats op (word_of v) (word_of u)))
  pub stores : (i : Item) (x : V) (k : Text) (v : Value) → Storable i v → a.holds x k v → a.holds (a.stored i x) k (stored i v)
  pub holders : (x : V) (k : Text) (v : Value) → a.holds x k v → is_null v ≡ false → Holds a (a.held x) k v
  pub casts : (t : Text) (x : V) (k : Text) (v : Value) → a.holds x k v → (is_null v || under k t) ≡ true → Holds a (a.cast t x) k v
  pub tests : (test : Test) (x y : V) (k l : Text) (v u : Value) → TestedOf (is_equality test) v → TestedOf (is_equality test) u → a.holds x k v → a.holds y l u
      → HoldsBoth a (a.tested (passes test v u) test x y) k v l u
  pub keys : (z : ℤ) (x : V) (k : Text) (v : Value) → IsWord v → a.holds x k v → signed false (word_of v) ≡ z → Holds a (a.keyed z x) k v
  pub others : (zs : List ℤ) (x : V) (k : Text) (v : Value) → IsWord v → AreSmall zs → a.holds x k v → IsNone zs (signed false (word_of v)) → Holds a (a.unkeyed zs x) k v
