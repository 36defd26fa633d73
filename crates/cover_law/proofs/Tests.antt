-- Behind a test both operands are held by what it leaves of them.
use Rattle.std.proofs.Common.{◌≡◌, Bool, true, false, true≢false, Option, Some, None, refl, sym, ◌∙◌}
use Rattle.std.specs.Prelude.{not}
use Rattle.std.proofs.lemmas.Bool.{eqb-true, eq-eqb}
use Rattle.insn_set.specs.declared.ops.Test.{Test}
use Rattle.insn_set.specs.declared.ops.Test.TheVariants as test
use Rattle.dalvik_defs.specs.Arith.{passes}
use Rattle.dalvik_defs.specs.Names.{Text}
use Rattle.dalvik_defs.specs.State.{same_value}
use Rattle.dalvik_defs.specs.declared.program.NamedProgram.{NamedProgram}
use Rattle.dalvik_defs.specs.declared.state.Value.{Value}
use Rattle.dalvik_defs.specs.declared.state.Value.TheVariants.{Word, Low, High, Object, Literal, Class}
use Rattle.domains.specs.Values.{Parts, value_holds}
use Rattle.pass_defs.specs.Analysis.{Analysis, HoldsBoth}
use Rattle.pass_defs.specs.Demands.{is_equality}
use Rattle.run_facts.specs.ValueAnalysis.{datum_of, value_analysis}
use Rattle.value_ops.specs.Sound.{AreOther, AreSame, HoldsBoth as BothHold, IsNarrow as NarrowDatum}
use Rattle.value_ops.specs.Tests.{different_values, equal_values, tested_values}
use Rattle.value_ops.proofs.Asked.{different_so, equal_so, words_asked}
use Rattle.cover_law.specs.Sound.{IsNarrow, IsWord, TestedOf}
use Rattle.cover_law.specs.Operators.{operators}

module _ (p : NamedProgram) where
  abbrev a : Analysis Parts
  a = value_analysis p operators

  both_hold : (o : Option (Parts × Parts)) (k l : Text) (v u : Value) → BothHold o (datum_of p k v) (datum_of p l u) → HoldsBoth a o k v l u
  both_hold None k l v u h = h
  both_hold (Some x) k l v u h = h

  narrow_datum : (k : Text) (v : Value) → IsNarrow v → NarrowDatum (datum_of p k v)
  narrow_datum k (Word n) h = h
  narrow_datum k (Low n) h = absurd h
  narrow_datum k (High n) h = absurd h
  narrow_datum k (Object n) h = tt
  narrow_datum k (Literal t) h = tt
  narrow_datum k (Class t) h = tt

  are_same : (k l : Text) (v u : Value) → IsNarrow v → IsNarrow u → same_value v u ≡ true → AreSame (datum_of p k v) (datum_of p l u)
  are_same k l (Word n) (Word m) i j e = eqb-true n m e
  are_same k l (Object n) (Object m) i j e = tt
  are_same k l (Literal n) (Literal m) i j e = tt
  are_same k l (Class n) (Class m) i j e = tt
  are_same k l (Low n) u i j e = absurd i
  are_same k l (High n) u i j e = absurd i
  are_same k l v u i j e = absurd (true≢false (sym e))

  are_other : (k l : Text) (v u : Value) → IsNarrow v → IsNarrow u → same_value v u ≡ false → AreOther (datum_of p k v) (datum_of p l u)
  are_other k l (Word n) (Word m) i j e = λ h. true≢false (sym (eq-eqb n m h) ∙ e)
  are_other k l (Low n) u i j e = absurd i
  are_other k l (High n) u i j e = absurd i
  are_other k l v (Low n) i j e = absurd j
  are_other k l v (High n) i j e = absurd j
  are_other k l v u i j e = tt

  module _ (x y : Parts) (k l : Text) (v u : Value) where
    equals : IsNarrow v → IsNarrow u → value_holds x (datum_of p k v) → value_holds y (datum_of p l u) → same_value v u ≡ true → HoldsBoth a (equal_values x y) k v l u
    equals i j h g e = both_hold (equal_values x y) k l v u (equal_so x y (datum_of p k v) (datum_of p l u) (narrow_datum k v i) (narrow_datum l u j) (are_same k l v u i j e) h g)

    differs : IsNarrow v → IsNarrow u → value_holds x (datum_of p k v) → value_holds y (datum_of p l u) → same_value v u ≡ false → HoldsBoth a (different_values x y) k v l u
    differs i j h g e = both_hold (different_values x y) k l v u (different_so x y (datum_of p k v) (datum_of p l u) (narrow_datum k v i) (narrow_datum l u j) (are_other k l v u i j e) h g)

    equality : IsNarrow v → IsNarrow u → value_holds x (datum_of p k v) → value_holds y (datum_of p l u) → HoldsBoth a (tested_values (same_value v u) test.Eq x y) k v l u
    equality i j h g = by (same_value v u) refl
      where
        by : (b : Bool) → same_value v u ≡ b → HoldsBoth a (tested_values b test.Eq x y) k v l u
        by true e = equals i j h g e
        by false e = differs i j h g e

    unequality : IsNarrow v → IsNarrow u → value_holds x (datum_of p k v) → value_holds y (datum_of p l u) → HoldsBoth a (tested_values (not (same_value v u)) test.Ne x y) k v l u
    unequality i j h g = by (same_value v u) refl
      where
        by : (b : Bool) → same_value v u ≡ b → HoldsBoth a (tested_values (not b) test.Ne x y) k v l u
        by true e = equals i j h g e
        by false e = differs i j h g e

  ordered : (t : Test) (x y : Parts) (k l : Text) (v u : Value) → IsWord v → IsWord u → value_holds x (datum_of p k v) → value_holds y (datum_of p l u) → HoldsBoth a (tested_values (passes t v u) t x y) k v l u
  ordered t x y k l (Word n) (Word m) i j h g = both_hold (tested_values (passes t (Word n) (Word m)) t x y) k l (Word n) (Word m) (words_asked t x y n m i j h g)
  ordered t x y k l (Word n) u i j h g = absurd j
  ordered t x y k l v u i j h g = absurd i

  pub tests : (t : Test) (x y : Parts) (k l : Text) (v u : Value) → TestedOf (is_equality t) v → TestedOf (is_equality t) u → a.holds x k v → a.holds y l u → HoldsBoth a (a.tested (passes t v u) t x y) k v l u
  tests test.Eq x y k l v u i j h g = equality x y k l v u i j h g
  tests test.Ne x y k l v u i j h g = unequality x y k l v u i j h g
  tests t x y k l v u i j h g = ordered t x y k l v u i j h g
