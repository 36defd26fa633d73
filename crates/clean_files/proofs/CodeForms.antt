-- What the form of an instruction says by its opcode: whether it continues, gives a result, or moves one.
use Rattle.std.proofs.Common.{◌≡◌, ◌≤◌, ◌<◌, ◌⊎◌, inl, inr, ℕ, Bool, true, false, cond, leb, ltb, eqb, refl, sym, subst, arith}
use Rattle.std.specs.Prelude.{◌||◌}
use Rattle.std.proofs.lemmas.Bool.{leb-true, leb-false, ltb-true, ltb-false, eqb-true, eq-eqb}
use Rattle.lemmas.proofs.Bools.{and_parts, not_true, neither_of, clash}
use Rattle.insn_set.specs.Flow.{goes_on}
use Rattle.insn_set.specs.declared.form.Insn.{Insn}
use Rattle.insn_set.specs.declared.form.Insn.TheVariants.{MoveResult, MoveException}
use Rattle.insn_set.specs.declared.ops.Slot.{Slot}
use Rattle.code_read.specs.declared.fields.Fields.{Fields}
use Rattle.code_read.specs.Branches as c
use Rattle.code_read.specs.Forms.{plain, move_form, const_form, wide_form, object_form, array_form, field_form, operation_form}
use Rattle.code_read.specs.Opcodes.{from_to}
use Rattle.code_read.specs.Order.{has_result}
use Rattle.code_read.specs.Payloads.{has_payload}
use Rattle.dex_defs.specs.CodeFaults.{continues, moves_result, moves_caught}
use Rattle.refused_law.proofs.Defs.{and_none}

-- ---- opcodes

pub other : (op n : ℕ) → eqb op n ≡ false → op ≡ n → ⊥
other op n e is = clash (eqb op n) (eq-eqb op n is) e

-- what lies not between two numbers but is not below the first is above the second
pub above : (op low high : ℕ) → from_to op low high ≡ false → low ≤ op → high < op
above op low high h le = by_first (and_none (leb low op) (leb op high) h)
  where
    by_first : (leb low op ≡ false) ⊎ (leb op high ≡ false) → high < op
    by_first (inl e) = absurd (let less = leb-false low op e in omega (arith, less, le))
    by_first (inr e) = leb-false op high e

pub within : (op low high : ℕ) → from_to op low high ≡ true → (low ≤ op) × (op ≤ high)
within op low high h = let p = and_parts (leb low op) (leb op high) h in (leb-true low op p.0, leb-true op high p.1)

-- ---- plain instructions

-- it gives no result, and goes on where its opcode does
abbrev Tells : ℕ → Insn → Type 0
Tells op insn = (has_result insn ≡ false) × (continues op ≡ true → goes_on insn ≡ true)

two : (op : ℕ) (b : Bool) (x y : Insn) → (b ≡ true → Tells op x) → (b ≡ false → Tells op y) → Tells op (cond b x y)
two op true x y f g = f refl
two op false x y f g = g refl

ends : (op : ℕ) → continues op ≡ true → (from_to op 0x0e 0x11 ≡ false) × (from_to op 0x27 0x2a ≡ false)
ends op h = neither_of (from_to op 0x0e 0x11) (from_to op 0x27 0x2a) (not_true (from_to op 0x0e 0x11 || from_to op 0x27 0x2a) h)

move_tells : (op : ℕ) (f : Fields) → op < 0x12 → Tells op (move_form op f)
move_tells op f low = two op (eqb op 0x00) _ _ (λ _. (refl, λ _. refl)) (λ e0. two op (from_to op 0x01 0x09) _ _ (λ _. (refl, λ _. refl)) (λ e1. two op (from_to op 0x0a 0x0c) _ _ (λ _. (refl, λ _. refl)) (λ e2.
    two op (eqb op 0x0d) _ _ (λ _. (refl, λ _. refl)) (λ e3. two op (eqb op 0x0e) _ _
    (λ is. (refl, λ on. absurd (let e = eqb-true op 0x0e is in let over = above op 0x0e 0x11 (ends op on).0 (omega (arith, e)) in omega (arith, e, over))))
    (λ e4. (
      refl,
      λ on. absurd (
          let n0 = other op 0x00 e0 in
          let n1 = above op 0x01 0x09 e1 (omega (arith, n0)) in
          let n2 = above op 0x0a 0x0c e2 (omega (arith, n1)) in
          let n3 = other op 0x0d e3 in
          let n4 = above op 0x0e 0x11 (ends op on).0 (omega (arith, n2, n3)) in
          omega (arith, n4, low)),
    ))))))

const_tells : (op : ℕ) (f : Fields) → Tells op (const_form op f)
const_tells op f = two op (eqb op 0x12) _ _ (λ _. (refl, λ _. refl)) (λ _. two op (eqb op 0x13) _ _ (λ _. (refl, λ _. refl)) (λ _. two op (eqb op 0x14) _ _ (λ _. (refl, λ _. refl)) (λ _. (refl, λ _. refl))))

wide_tells : (op : ℕ) (f : Fields) → Tells op (wide_form op f)
wide_tells op f = two op (eqb op 0x16) _ _ (λ _. (refl, λ _. refl)) (λ _. two op (eqb op 0x17) _ _ (λ _. (refl, λ _. refl)) (λ _. two op (eqb op 0x18) _ _ (λ _. (refl, λ _. refl)) (λ _. (refl, λ _. refl))))

object_tells : (op : ℕ) (f : Fields) → 0x1a ≤ op → op < 0x28 → c.is_call op ≡ false → has_payload op ≡ false → Tells op (object_form op f)
object_tells op f from low call table = two op (eqb op 0x1a) _ _ (λ _. (refl, λ _. refl)) (λ e0. two op (eqb op 0x1b) _ _ (λ _. (refl, λ _. refl)) (λ e1. two op (eqb op 0x1c) _ _ (λ _. (refl, λ _. refl)) (λ e2.
    two op (eqb op 0x1d) _ _ (λ _. (refl, λ _. refl)) (λ e3. two op (eqb op 0x1e) _ _ (λ _. (refl, λ _. refl)) (λ e4. two op (eqb op 0x1f) _ _ (λ _. (refl, λ _. refl)) (λ e5. two op (eqb op 0x20) _ _ (λ _. (refl, λ _. refl)) (λ e6.
    two op (eqb op 0x21) _ _ (λ _. (refl, λ _. refl)) (λ e7. two op (eqb op 0x22) _ _ (λ _. (refl, λ _. refl)) (λ e8. two op (eqb op 0x23) _ _ (λ _. (refl, λ _. refl)) (λ e9. (
      refl,
      λ on. absurd (
          let n0 = other op 0x1a e0 in let n1 = other op 0x1b e1 in let n2 = other op 0x1c e2 in let n3 = other op 0x1d e3 in let n4 = other op 0x1e e4 in
          let n5 = other op 0x1f e5 in let n6 = other op 0x20 e6 in let n7 = other op 0x21 e7 in let n8 = other op 0x22 e8 in let n9 = other op 0x23 e9 in
          let over = above op 0x24 0x25 (neither_of (from_to op 0x24 0x25) _ call).0 (omega (arith, from, n0, n1, n2, n3, n4, n5, n6, n7, n8, n9)) in
          let n10 = other op 0x26 (neither_of (eqb op 0x26) _ table).0 in
          let last = above op 0x27 0x2a (ends op on).1 (omega (arith, over, n10)) in
          omega (arith, last, low)),
    )))))))))))

array_tells : (op : ℕ) (f : Fields) → Tells op (array_form op f)
array_tells op f = two op (from_to op 0x2d 0x31) _ _ (λ _. (refl, λ _. refl)) (λ _. two op (from_to op 0x44 0x4a) _ _ (λ _. (refl, λ _. refl)) (λ _. (refl, λ _. refl)))

field_tells : (op : ℕ) (f : Fields) → Tells op (field_form op f)
field_tells op f = two op (from_to op 0x52 0x58) _ _ (λ _. (refl, λ _. refl)) (λ _. two op (from_to op 0x59 0x5f) _ _ (λ _. (refl, λ _. refl)) (λ _. two op (from_to op 0x60 0x66) _ _ (λ _. (refl, λ _. refl)) (λ _. (refl, λ _. refl))))

operation_tells : (op : ℕ) (f : Fields) → Tells op (operation_form op f)
operation_tells op f = two op (from_to op 0x7b 0x8f) _ _ (λ _. (refl, λ _. refl)) (λ _. two op (from_to op 0x90 0xaf) _ _ (λ _. (refl, λ _. refl)) (λ _. two op (from_to op 0xb0 0xcf) _ _ (λ _. (refl, λ _. refl))
    (λ _. two op (from_to op 0xd0 0xd7) _ _ (λ _. (refl, λ _. refl)) (λ _. (refl, λ _. refl)))))

pub plain_tells : (op : ℕ) (f : Fields) → c.is_call op ≡ false → has_payload op ≡ false → (has_result (plain op f) ≡ false) × (continues op ≡ true → goes_on (plain op f) ≡ true)
unfolding plain
plain_tells op f call table = two op (ltb op 0x12) _ _ (λ low. move_tells op f (ltb-true op 0x12 low)) (λ _. two op (ltb op 0x16) _ _ (λ _. const_tells op f) (λ _. two op (ltb op 0x1a) _ _ (λ _. wide_tells op f)
    (λ high. two op (ltb op 0x28) _ _ (λ low. object_tells op f (ltb-false op 0x1a high) (ltb-true op 0x28 low) call table)
    (λ _. two op (ltb op 0x52) _ _ (λ _. array_tells op f) (λ _. two op (ltb op 0x6e) _ _ (λ _. field_tells op f) (λ _. operation_tells op f))))))

-- ---- the others

one_of : (b : Bool) (P : Insn → Type 0) (x y : Insn) → (b ≡ true → P x) → (b ≡ false → P y) → P (cond b x y)
one_of true P x y f g = f refl
one_of false P x y f g = g refl

pub calls_tell : (op : ℕ) (f : Fields) → (has_result (c.call_form op f) ≡ true) × (goes_on (c.call_form op f) ≡ true)
calls_tell op f = one_of (from_to op 0x24 0x25) (λ i. (has_result i ≡ true) × (goes_on i ≡ true)) _ _ (λ _. (refl, refl)) (λ _. one_of (c.is_range op) (λ i. (has_result i ≡ true) × (goes_on i ≡ true)) _ _ (λ _. (refl, refl)) (λ _. (refl, refl)))

pub branches_tell : (op : ℕ) (f : Fields) (target : ℕ) → (has_result (c.branch_form op f target) ≡ false) × (continues op ≡ true → goes_on (c.branch_form op f target) ≡ true)
branches_tell op f target = two op (from_to op 0x28 0x2a) _ _
    (λ is. (refl, λ on. absurd (let w = within op 0x28 0x2a is in let over = above op 0x27 0x2a (ends op on).1 (let low = w.0 in omega (arith, low)) in let high = w.1 in omega (arith, over, high))))
    (λ _. two op (from_to op 0x32 0x37) _ _ (λ _. (refl, λ _. refl)) (λ _. (refl, λ _. refl)))

-- ---- moves

abbrev IsOne : ℕ → ℕ → ℕ → ℕ → Type 0
IsOne op a b e = (op ≡ a) ⊎ ((op ≡ b) ⊎ (op ≡ e))

three_moves : (op : ℕ) → moves_result op ≡ true → IsOne op 0x0a 0x0b 0x0c
three_moves op h = by_tests (eqb op 0x0a) (eqb op 0x0b) refl refl
  where
    by_tests : (x y : Bool) → eqb op 0x0a ≡ x → eqb op 0x0b ≡ y → IsOne op 0x0a 0x0b 0x0c
    by_tests true y ex ey = inl (eqb-true op 0x0a ex)
    by_tests false true ex ey = inr (inl (eqb-true op 0x0b ey))
    by_tests false false ex ey = inr (inr (let w = within op 0x0a 0x0c h in let low = w.0 in let high = w.1 in let n0 = other op 0x0a ex in let n1 = other op 0x0b ey in omega (arith, low, high, n0, n1)))

-- an opcode of a move is that of a plain instruction
abbrev pub IsPlain : ℕ → Type 0
IsPlain op = (c.is_branch op || (c.is_call op || has_payload op)) ≡ false

abbrev Moves : Fields → ℕ → Type 0
Moves f op = IsPlain op × ((slot : Slot) × (to : ℕ) × (plain op f ≡ MoveResult slot to))

pub result_moved : (op : ℕ) (f : Fields) → moves_result op ≡ true → IsPlain op × ((slot : Slot) × (to : ℕ) × (plain op f ≡ MoveResult slot to))
unfolding plain
result_moved op f h = elim (three_moves op h) [
  | inl e ↦ subst (Moves f) (sym e) (refl, (_, _, refl))
  | inr t ↦ elim t [
    | inl e ↦ subst (Moves f) (sym e) (refl, (_, _, refl))
    | inr e ↦ subst (Moves f) (sym e) (refl, (_, _, refl))
  ]
]

pub caught_moved : (op : ℕ) (f : Fields) → moves_caught op ≡ true → IsPlain op × (plain op f ≡ MoveException f.a)
unfolding plain
caught_moved op f h = subst (λ (o : ℕ). IsPlain o × (plain o f ≡ MoveException f.a)) (sym (eqb-true op 0x0d h)) (refl, refl)
