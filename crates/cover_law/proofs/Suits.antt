-- The operands of a form in a typed frame, whose words have 32 bits, are such as its numbers are asked of.
use Rattle.std.proofs.Common.{◌≡◌, ℕ, Bool, true, false, true≢false, inl, inr, refl, sym, subst, arith}
use Rattle.std.specs.Prelude.{◌&&◌, ◌||◌}
use Rattle.insn_set.specs.Widths.{unary_reads_wide, binary_is_wide, second_is_wide, compares_wide}
use Rattle.dalvik_defs.specs.Effect.{register}
use Rattle.dalvik_defs.specs.Names.{Text}
use Rattle.dalvik_defs.specs.Outer.{Outer}
use Rattle.dalvik_defs.specs.State.{World, Classes}
use Rattle.dalvik_defs.specs.declared.forms.Form.{Form}
use Rattle.dalvik_defs.specs.declared.forms.Form.TheVariants as form
use Rattle.dalvik_defs.specs.declared.program.NamedProgram.{NamedProgram}
use Rattle.dalvik_defs.specs.declared.state.Frame.{Frame}
use Rattle.dalvik_defs.specs.declared.state.Value.{Value}
use Rattle.dalvik_defs.specs.declared.state.Value.TheVariants.{Word, Object, Literal, Class}
use Rattle.dalvik_defs.specs.declared.tables.Floats.{Floats}
use Rattle.dalvik_defs.specs.declared.tables.Framework.{Framework}
use Rattle.pass_defs.specs.Analysis.{IsRanged}
use Rattle.pass_defs.specs.Demands.{Demand, meets, Number, Either, number_or_pair, tested, second_tested, like, is_equality}
use Rattle.pass_defs.specs.Kinds.{Kind, is_number, is_initialised}
use Rattle.pass_defs.specs.Kinds as kind
use Rattle.pass_defs.specs.Registers.{kind_at}
use Rattle.run_laws.proofs.Fine.{each_or}
use Rattle.run_laws.specs.TypedStates.{IsObject, KindHolds, TypedFrame, TypedWorld}
use Rattle.run_laws.proofs.Forms.{reg_held, low_held}
use Rattle.run_laws.proofs.Here.{At}
use Rattle.run_laws.proofs.Registers.{and_left, and_right}
use Rattle.run_laws.proofs.Settled.{IsSettled}
use Rattle.cover_law.specs.Coverable.{IsFormed}
use Rattle.cover_law.specs.Known.{RangedFrame}
use Rattle.cover_law.specs.Sound.{IsNarrow, IsWide, IsWord, NumberOf, TestedOf}
use Rattle.cover_law.proofs.Along.{Suits}

word_of_bits : (v : Value) → IsRanged v → (n : ℕ) × (v ≡ Word n) → IsWord v
word_of_bits v r (n, e) = subst IsWord (sym e) (subst IsRanged e r)

word_narrow : (v : Value) → IsWord v → IsNarrow v
word_narrow (Word n) h = h
word_narrow v h = absurd h

object_narrow : (w : World) (v : Value) → IsObject w v → IsNarrow v
object_narrow w (Object n) h = tt
object_narrow w (Literal t) h = tt
object_narrow w (Class t) h = tt
object_narrow w v h = absurd h

zero_narrow : (v : Value) → v ≡ Word 0 → IsNarrow v
zero_narrow v e = subst IsNarrow (sym e) (omega arith)

module _ (p : NamedProgram) (f : Framework) (c : Text) (w : World) where
  number_word : (k : Kind) (v : Value) → is_number k ≡ true → KindHolds p f c w k v → (n : ℕ) × (v ≡ Word n)
  number_word kind.Zero v e h = (0, h)
  number_word kind.Word v e h = h
  number_word k v e h = absurd (true≢false (sym e))

  begun_narrow : (k : Kind) (v : Value) → is_initialised k ≡ true → KindHolds p f c w k v → IsNarrow v
  begun_narrow kind.Zero v e h = zero_narrow v h
  begun_narrow kind.Null v e h = zero_narrow v h
  begun_narrow (kind.Class t) v e (inl h) = zero_narrow v h
  begun_narrow (kind.Class t) v e (inr h) = object_narrow w v h.0
  begun_narrow (kind.Array t) v e (inl h) = zero_narrow v h
  begun_narrow (kind.Array t) v e (inr h) = object_narrow w v h.0
  begun_narrow kind.Reference v e (inl h) = zero_narrow v h
  begun_narrow kind.Reference v e (inr h) = object_narrow w v h
  begun_narrow k v e h = absurd (true≢false (sym e))

module _ (p : NamedProgram) (o : Outer) (f : Framework) (floats : Floats) (reg : IsSettled p) (w : World) (cs : Classes) (g : Frame) (tw : TypedWorld p f w) (t : TypedFrame p f w g) (ranged : RangedFrame g) where
  abbrev I : Form → Type 0
  I = At p o f floats reg w g t

  bits : (r : ℕ) → IsRanged (register g r)
  bits r = each_or IsRanged g.registers r (Word 0) ranged.registers (omega arith)

  held : (r : ℕ) → KindHolds p f t.in_method.class.name w (kind_at t.kinds.registers r) (register g r)
  held r = reg_held p o f floats reg w cs g tw t r

  word : (r : ℕ) → is_number (kind_at t.kinds.registers r) ≡ true → IsWord (register g r)
  word r e = word_of_bits (register g r) (bits r) (number_word p f t.in_method.class.name w (kind_at t.kinds.registers r) (register g r) e (held r))

  number : (r : ℕ) (b : Bool) → meets p t.in_method.class t.kinds.registers r (number_or_pair b) ≡ true → NumberOf b (register g r)
  number r true e = let k = (low_held p o f floats reg w cs g tw t r e).0 in subst IsWide (sym k.1) tt
  number r false e = word r e

  either : (r : ℕ) (a b : Bool) → is_number (kind_at t.kinds.registers r) ≡ a → is_initialised (kind_at t.kinds.registers r) ≡ b → (a || b) ≡ true → IsNarrow (register g r)
  either r true b i j e = word_narrow (register g r) (word r i)
  either r false true i j e = begun_narrow p f t.in_method.class.name w (kind_at t.kinds.registers r) (register g r) j (held r)
  either r false false i j e = absurd (true≢false (sym e))

  narrow : (r : ℕ) → meets p t.in_method.class t.kinds.registers r Either ≡ true → IsNarrow (register g r)
  narrow r e = either r (is_number (kind_at t.kinds.registers r)) (is_initialised (kind_at t.kinds.registers r)) refl refl e

  like_first : (r : ℕ) (k : Kind) → meets p t.in_method.class t.kinds.registers r (like k) ≡ true → IsNarrow (register g r)
  like_first r kind.Zero e = narrow r e
  like_first r kind.Word e = word_narrow (register g r) (word r e)
  like_first r k e = begun_narrow p f t.in_method.class.name w (kind_at t.kinds.registers r) (register g r) e (held r)

  first_of_test : (r : ℕ) (b : Bool) → meets p t.in_method.class t.kinds.registers r (tested b) ≡ true → TestedOf b (register g r)
  first_of_test r true e = narrow r e
  first_of_test r false e = word r e

  second_of_test : (r : ℕ) (b : Bool) (k : Kind) → meets p t.in_method.class t.kinds.registers r (second_tested b k) ≡ true → TestedOf b (register g r)
  second_of_test r true k e = like_first r k e
  second_of_test r false k e = word r e

  abbrev met : ℕ → Demand → Bool
  met r = meets p t.in_method.class t.kinds.registers r

  pub suits : (y : Form) → I y → IsFormed y → Suits g y
  suits (form.Unary op to from) h k = number from (unary_reads_wide op) (and_left (met from (number_or_pair (unary_reads_wide op))) true h.allowed)
  suits (form.Binary op to r s) h k = let second = met s (number_or_pair (second_is_wide op)) in let all = h.allowed in
      (number r (binary_is_wide op) (and_left (met r (number_or_pair (binary_is_wide op))) (second && true) all), number s (second_is_wide op) (and_left second true (and_right (met r (number_or_pair (binary_is_wide op))) (second && true) all)))
  suits (form.Literal op to r value) h k = (word r (and_left (met r Number) true h.allowed), k)
  suits (form.Cmp op to r s) h k = let second = met s (number_or_pair (compares_wide op)) in let all = h.allowed in
      (number r (compares_wide op) (and_left (met r (number_or_pair (compares_wide op))) (second && true) all), number s (compares_wide op) (and_left second true (and_right (met r (number_or_pair (compares_wide op))) (second && true) all)))
  suits (form.If test r s target) h k = let first = met r (tested (is_equality test)) in let second = met s (second_tested (is_equality test) (kind_at t.kinds.registers r)) in let all = h.allowed in
      (first_of_test r (is_equality test) (and_left first (second && true) all), second_of_test s (is_equality test) (kind_at t.kinds.registers r) (and_left second true (and_right first (second && true) all)))
  suits (form.IfZero test r target) h k = first_of_test r (is_equality test) (and_left (met r (tested (is_equality test))) true h.allowed)
  suits (form.PackedSwitch on first targets) h k = word on (and_left (met on Number) true h.allowed)
  suits (form.SparseSwitch on keys targets) h k = (word on (and_left (met on Number) true h.allowed), k)
  suits y h k = tt
