-- What it is that an analysis is sound apart from numbers and tests: what is known, made, given, used and cast holds of what
-- the machine has.
use Rattle.std.specs.Prelude.{◌≡◌, ◌||◌, ◌<◌, ◌^◌, ℕ, Bool, true, false}
use Rattle.insn_set.specs.declared.ops.Item.{Item}
use Rattle.dalvik_defs.specs.Names.{Text}
use Rattle.dalvik_defs.specs.State.{is_null}
use Rattle.dalvik_defs.specs.declared.state.Value.{Value}
use Rattle.dalvik_defs.specs.declared.state.Value.TheVariants.{Word, Object}
use Rattle.pass_defs.specs.Analysis.{Analysis, Holds, IsRanged, IsReference, read_item}

pub record IsSoundApart {V : Type 0} (a : Analysis V) (under : Text → Text → Bool) : Type 0 where
  pub grows : (x y : V) (k : Text) (v : Value) → a.below x y → a.holds x k v → a.holds y k v
  pub all : (k : Text) (v : Value) → IsRanged v → a.holds a.any k v
  pub knows : (k : Text) (v : Value) → a.holds (a.known v) k v
  pub makes : (t : Text) (n : ℕ) → a.holds (a.made t) t (Object n)
  pub lengths : (k : Text) (n : ℕ) → n < 2 ^ 31 → a.holds a.length k (Word n)
  pub truths : (k : Text) → a.holds a.truth k (Word 0) × a.holds a.truth k (Word 1)
  pub items : (i : Item) (k : Text) (v : Value) → IsRanged (read_item a i v) → a.holds (a.item i) k (read_item a i v)
  pub outers : (t k : Text) (v : Value) → IsRanged v → a.holds (a.outer t) k v
  pub catches : (k : Text) (v : Value) → IsReference v → a.holds a.caught k v
  pub holders : (x : V) (k : Text) (v : Value) → a.holds x k v → is_null v ≡ false → Holds a (a.held x) k v
  pub casts : (t : Text) (x : V) (k : Text) (v : Value) → a.holds x k v → (is_null v || under k t) ≡ true → Holds a (a.cast t x) k v
