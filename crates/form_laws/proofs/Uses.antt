-- What a form reads and writes, by tests and by places.
use Rattle.std.proofs.Common.{◌≡◌, ℕ, zero, suc, ◌+◌, ◌<◌, Bool, true, false, true≢false, List, [], ◌∷◌, refl, sym, ap, ◌∙◌, arith}
use Rattle.std.specs.Prelude.{◌||◌, nat_eq, map}
use Rattle.std.specs.List.{list_any}
use Rattle.std.proofs.lemmas.Bool.{eq-eqb, eqb-true}
use Rattle.lemmas.proofs.Bools.{or_left}
use Rattle.lemmas.proofs.Numbers.{same_number}
use Rattle.insn_set.specs.Registers.{in_operand}
use Rattle.insn_set.specs.declared.ops.Slot.TheVariants as slot
use Rattle.dalvik_defs.specs.declared.state.Frame.{Frame}
use Rattle.dalvik_defs.specs.Effect.{register}
use Rattle.dalvik_defs.specs.declared.forms.Form.{Form}
use Rattle.dalvik_defs.specs.declared.forms.Form.TheVariants as form
use Rattle.pass_defs.specs.Bare.{reads, writes}
use Rattle.pass_defs.specs.Remade.{remade}
use Rattle.form_laws.specs.Changes.{operands, destination, width_if, width, TakesPair, Same}

pub or_right : (a b : Bool) → b ≡ true → (a || b) ≡ true
or_right true b e = refl
or_right false b e = e

pub in_own : (b : Bool) (x : ℕ) → in_operand b x x ≡ true
in_own true x = or_left (nat_eq x x) (nat_eq x (x + 1)) (same_number x)
in_own false x = same_number x

same_args : (r : ℕ → ℕ) (g g' : Frame) (xs : List ℕ) → ((x : ℕ) → list_any (λ a. nat_eq a x) xs ≡ true → register g' (r x) ≡ register g x) → Same g g' xs (map r xs)
same_args r g g' [] h = tt
same_args r g g' (x ∷ xs) h = (h x (or_left (nat_eq x x) (list_any (λ a. nat_eq a x) xs) (same_number x)), same_args r g g' xs (λ y e. h y (or_right (nat_eq x y) (list_any (λ a. nat_eq a y) xs) e)))

-- what is read of every register that a form reads is the same
module _ (r d t : ℕ → ℕ) (g g' : Frame) where
  pub same_reads : (f : Form) → ((x : ℕ) → reads f x ≡ true → register g' (r x) ≡ register g x) → TakesPair r f → Same g g' (operands f) (operands (remade r d t f))
  same_reads (form.Move slot.Word to from) h p = (h from (same_number from), tt)
  same_reads (form.Move slot.Object to from) h p = (h from (same_number from), tt)
  same_reads (form.Move slot.Wide to from) h p = (h from (in_own true from), (ap (register g') (sym p) ∙ h (from + 1) (or_right (nat_eq (from + 1) from) (nat_eq (from + 1) (from + 1)) (same_number (from + 1))), tt))
  same_reads (form.Return slot from) h p = (h from (in_own _ from), tt)
  same_reads (form.MonitorEnter on) h p = (h on (same_number on), tt)
  same_reads (form.MonitorExit on) h p = (h on (same_number on), tt)
  same_reads (form.CheckCast on kind) h p = (h on (same_number on), tt)
  same_reads (form.InstanceOf to from kind) h p = (h from (same_number from), tt)
  same_reads (form.ArrayLength to from) h p = (h from (same_number from), tt)
  same_reads (form.NewArray to size kind) h p = (h size (same_number size), tt)
  same_reads (form.FilledNewArray kind args) h p = same_args r g g' args h
  same_reads (form.FillArray on wide items) h p = (h on (same_number on), tt)
  same_reads (form.Throw on) h p = (h on (same_number on), tt)
  same_reads (form.PackedSwitch on first targets) h p = (h on (same_number on), tt)
  same_reads (form.SparseSwitch on keys targets) h p = (h on (same_number on), tt)
  same_reads (form.Cmp op to a b) h p = (h a (or_left _ _ (in_own _ a)), (h b (or_right _ _ (in_own _ b)), tt))
  same_reads (form.If test a b target) h p = (h a (or_left _ _ (same_number a)), (h b (or_right _ _ (same_number b)), tt))
  same_reads (form.IfZero test a target) h p = (h a (same_number a), tt)
  same_reads (form.ArrayGet item to array index) h p = (h array (or_left _ _ (same_number array)), (h index (or_right _ _ (same_number index)), tt))
  same_reads (form.ArrayPut item from array index) h p = (h from (or_left _ _ (or_left _ _ (in_own _ from))), (h array (or_left _ _ (or_right _ _ (same_number array))), (h index (or_right _ _ (same_number index)), tt)))
  same_reads (form.InstanceGet item to on field) h p = (h on (same_number on), tt)
  same_reads (form.InstancePut item from on field) h p = (h from (or_left _ _ (in_own _ from)), (h on (or_right _ _ (same_number on)), tt))
  same_reads (form.StaticPut item from field) h p = (h from (in_own _ from), tt)
  same_reads (form.Invoke kind method args) h p = same_args r g g' args h
  same_reads (form.Unary op to from) h p = (h from (in_own _ from), tt)
  same_reads (form.Binary op to a b) h p = (h a (or_left _ _ (in_own _ a)), (h b (or_right _ _ (in_own _ b)), tt))
  same_reads (form.Literal op to a value) h p = (h a (same_number a), tt)
  same_reads f h p = tt

-- ---- writes

-- whether a register is one of so many from one on
abbrev pub in_run : ℕ → ℕ → ℕ → Bool
in_run zero to x = false
in_run (suc zero) to x = nat_eq x to
in_run (suc (suc n)) to x = nat_eq x to || nat_eq x (to + 1)

operand_run : (b : Bool) (to x : ℕ) → in_operand b to x ≡ in_run (width_if b) to x
operand_run true to x = refl
operand_run false to x = refl

pub writes_run : (f : Form) (x : ℕ) → writes f x ≡ in_run (width f) (destination f) x
writes_run (form.Move slot to from) x = operand_run _ to x
writes_run (form.MoveResult slot to) x = operand_run _ to x
writes_run (form.ArrayGet item to array index) x = operand_run _ to x
writes_run (form.InstanceGet item to on field) x = operand_run _ to x
writes_run (form.StaticGet item to field) x = operand_run _ to x
writes_run (form.Unary op to from) x = operand_run _ to x
writes_run (form.Binary op to a b) x = operand_run _ to x
writes_run f x = refl

pub narrow_if : (b : Bool) → width_if b < 3
narrow_if true = omega arith
narrow_if false = omega arith

pub narrow : (f : Form) → width f < 3
narrow (form.Move slot to from) = narrow_if _
narrow (form.MoveResult slot to) = narrow_if _
narrow (form.ArrayGet item to array index) = narrow_if _
narrow (form.InstanceGet item to on field) = narrow_if _
narrow (form.StaticGet item to field) = narrow_if _
narrow (form.Unary op to from) = narrow_if _
narrow (form.Binary op to a b) = narrow_if _
narrow f = omega arith

pub run_at : (n to i : ℕ) → n < 3 → i < n → in_run n to (to + i) ≡ true
run_at zero to i a b = absurd (omega (arith, b))
run_at (suc zero) to i a b = eq-eqb (to + i) to (omega (arith, b))
run_at (suc (suc n)) to zero a b = or_left (nat_eq (to + 0) to) (nat_eq (to + 0) (to + 1)) (eq-eqb (to + 0) to (omega arith))
run_at (suc (suc n)) to (suc i) a b = or_right (nat_eq (to + suc i) to) (nat_eq (to + suc i) (to + 1)) (eq-eqb (to + suc i) (to + 1) (omega (arith, a, b)))

-- a register behind the destination is written
pub writes_at : (f : Form) (i : ℕ) → i < width f → writes f (destination f + i) ≡ true
writes_at f i lt = writes_run f (destination f + i) ∙ run_at (width f) (destination f) i (narrow f) lt

from_run : (n to x : ℕ) → n < 3 → in_run n to x ≡ true → (i : ℕ) × ((i < n) × (x ≡ to + i))
from_run zero to x a e = absurd (true≢false (sym e))
from_run (suc zero) to x a e = let k = eqb-true x to e in (0, (omega arith, omega (arith, k)))
from_run (suc (suc n)) to x a e = by (nat_eq x to) refl e
  where
    by : (b : Bool) → nat_eq x to ≡ b → (b || nat_eq x (to + 1)) ≡ true → (i : ℕ) × ((i < suc (suc n)) × (x ≡ to + i))
    by true i e = let k = eqb-true x to i in (0, (omega arith, omega (arith, k)))
    by false i e = let k = eqb-true x (to + 1) e in (1, (omega arith, k))

-- and what is written stands there
pub writes_from : (f : Form) (x : ℕ) → writes f x ≡ true → (i : ℕ) × ((i < width f) × (x ≡ destination f + i))
writes_from f x e = from_run (width f) (destination f) x (narrow f) (sym (writes_run f x) ∙ e)

-- ---- other registers

pub remade_width : (r d t : ℕ → ℕ) (f : Form) → width (remade r d t f) ≡ width f
remade_width r d t form.Nop = refl
remade_width r d t f = refl

nowhere : {A : Type 0} {i : ℕ} → i < 0 → A
nowhere lt = absurd (omega (arith, lt))

pub remade_destination : (r d t : ℕ → ℕ) (f : Form) (i : ℕ) → i < width f → destination (remade r d t f) ≡ d (destination f)
remade_destination r d t form.Nop i lt = nowhere lt
remade_destination r d t form.ReturnVoid i lt = nowhere lt
remade_destination r d t (form.Return slot from) i lt = nowhere lt
remade_destination r d t (form.MonitorEnter on) i lt = nowhere lt
remade_destination r d t (form.MonitorExit on) i lt = nowhere lt
remade_destination r d t (form.CheckCast on kind) i lt = nowhere lt
remade_destination r d t (form.FilledNewArray kind args) i lt = nowhere lt
remade_destination r d t (form.FillArray on wide items) i lt = nowhere lt
remade_destination r d t (form.Throw on) i lt = nowhere lt
remade_destination r d t (form.Goto target) i lt = nowhere lt
remade_destination r d t (form.PackedSwitch on first targets) i lt = nowhere lt
remade_destination r d t (form.SparseSwitch on keys targets) i lt = nowhere lt
remade_destination r d t (form.If test a b target) i lt = nowhere lt
remade_destination r d t (form.IfZero test a target) i lt = nowhere lt
remade_destination r d t (form.ArrayPut item from array index) i lt = nowhere lt
remade_destination r d t (form.InstancePut item from on field) i lt = nowhere lt
remade_destination r d t (form.StaticPut item from field) i lt = nowhere lt
remade_destination r d t (form.Invoke kind method args) i lt = nowhere lt
remade_destination r d t f i lt = refl
