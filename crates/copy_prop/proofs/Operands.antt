-- What an instruction reads as an operand of some width is one of its operands, and other operands make another instruction.
use Rattle.std.proofs.Common.{◌≡◌, ℕ, zero, suc, ◌+◌, ◌<◌, Bool, true, false, List, [], ◌∷◌, ◌++◌, map, drop, length, get_or, Some, None, Option, refl, sym, ap, ◌∙◌, subst, arith, ◌⊎◌, inl, inr}
use Rattle.std.specs.Prelude.{◌&&◌, ◌||◌, not, nat_eq, slice_index_or}
use Rattle.std.specs.List.{list_any}
use Rattle.std.proofs.lemmas.Bool.{eqb-true, or_cases, or_left, or_right, or_parts, and_parts, not-true, both_ways, eq-eqb}
use Rattle.std.proofs.lemmas.List.{map-id}
use Rattle.insn_set.specs.Registers.{in_operand, reads_of}
use Rattle.insn_set.specs.Widths.{is_wide_slot, is_wide_item, compares_wide, unary_reads_wide, binary_is_wide, second_is_wide}
use Rattle.insn_set.specs.declared.ops.Slot.{Slot}
use Rattle.insn_set.specs.declared.ops.InvokeKind.{InvokeKind}
use Rattle.insn_set.specs.declared.ops.InvokeKind.TheVariants as call
use Rattle.insn_set.specs.declared.form.Insn.{Insn}
use Rattle.insn_set.specs.declared.form.Insn.TheVariants.{Nop, Move, MoveResult, MoveException, ReturnVoid, Return, Const, ConstWide, ConstString, ConstClass, MonitorEnter, MonitorExit, CheckCast, InstanceOf, ArrayLength, NewInstance, NewArray, FilledNewArray, FillArray, Throw, Goto, PackedSwitch, SparseSwitch, Cmp, If, IfZero, ArrayGet, ArrayPut, InstanceGet, InstancePut, StaticGet, StaticPut, Invoke, Unary, Binary, Literal}
use Rattle.insn_regs.specs.Remade.{remade, operands_of}
use Rattle.insn_regs.specs.Wides.{first_if, wide_arguments, wide_passed, wides_read, reads_as}

-- ---- wide operands

one_wide : (v : Bool) (at r : ℕ) (xs : List ℕ) → list_any (nat_eq r) (first_if v at) ≡ true → list_any (nat_eq r) (at ∷ xs) ≡ true
one_wide true at r xs h = elim (or_cases (nat_eq r at) false h) [ inl e ↦ or_left (nat_eq r at) (list_any (nat_eq r) xs) e | inr f ↦ absurd (cc) ]
one_wide false at r xs h = absurd (cc)

two_wide : (u v : Bool) (a b r : ℕ) → list_any (nat_eq r) (first_if u a ++ first_if v b) ≡ true → list_any (nat_eq r) (a ∷ b ∷ []) ≡ true
two_wide true v a b r h = elim (or_cases (nat_eq r a) (list_any (nat_eq r) (first_if v b)) h) [
  | inl e ↦ or_left (nat_eq r a) (list_any (nat_eq r) (b ∷ [])) e
  | inr i ↦ or_right (nat_eq r a) (list_any (nat_eq r) (b ∷ [])) (one_wide v b r [] i)
]
two_wide false v a b r h = or_right (nat_eq r a) (list_any (nat_eq r) (b ∷ [])) (one_wide v b r [] h)

in_rest : (r : ℕ) (xs : List ℕ) → list_any (nat_eq r) (drop 1 xs) ≡ true → list_any (nat_eq r) xs ≡ true
in_rest r [] h = h
in_rest r (x ∷ xs) h = or_right (nat_eq r x) (list_any (nat_eq r) xs) h

wide_argument : (ws : List Bool) (rs : List ℕ) (r : ℕ) → list_any (nat_eq r) (wide_arguments ws rs) ≡ true → list_any (nat_eq r) rs ≡ true
wide_argument [] rs r h = absurd (cc)
wide_argument (w ∷ ws) [] r h = absurd (cc)
wide_argument (true ∷ ws) (x ∷ rs) r h = elim (or_cases (nat_eq r x) (list_any (nat_eq r) (wide_arguments ws (drop 1 rs))) h) [
  | inl e ↦ or_left (nat_eq r x) (list_any (nat_eq r) rs) e
  | inr i ↦ or_right (nat_eq r x) (list_any (nat_eq r) rs) (in_rest r rs (wide_argument ws (drop 1 rs) r i))
]
wide_argument (false ∷ ws) (x ∷ rs) r h = or_right (nat_eq r x) (list_any (nat_eq r) rs) (wide_argument ws rs r h)

passed_wide : (kind : InvokeKind) (ws : List Bool) (rs : List ℕ) (r : ℕ) → list_any (nat_eq r) (wide_passed kind ws rs) ≡ true → list_any (nat_eq r) rs ≡ true
passed_wide call.Static ws rs r h = wide_argument (drop 1 ws) rs r h
passed_wide kind ws rs r h = wide_argument ws rs r h

wide_operand : (w : List (List Bool)) (f : Insn) (r : ℕ) → list_any (nat_eq r) (wides_read w f) ≡ true → list_any (nat_eq r) (operands_of f) ≡ true
wide_operand w (Move slot to from) r h = one_wide (is_wide_slot slot) from r [] h
wide_operand w (Return slot from) r h = one_wide (is_wide_slot slot) from r [] h
wide_operand w (Cmp op to a b) r h = two_wide (compares_wide op) (compares_wide op) a b r h
wide_operand w (ArrayPut item from array index) r h = one_wide (is_wide_item item) from r (array ∷ index ∷ []) h
wide_operand w (InstancePut item from on field) r h = one_wide (is_wide_item item) from r (on ∷ []) h
wide_operand w (StaticPut item from field) r h = one_wide (is_wide_item item) from r [] h
wide_operand w (Invoke kind method args) r h = passed_wide kind (slice_index_or w method []) args r h
wide_operand w (Unary op to from) r h = one_wide (unary_reads_wide op) from r [] h
wide_operand w (Binary op to a b) r h = two_wide (binary_is_wide op) (second_is_wide op) a b r h
wide_operand w f r h = absurd (cc)

-- ---- narrow operands

alone_at : (v : Bool) (at r : ℕ) → in_operand v at r ≡ true → list_any (λ at. in_operand true at r) (first_if v at) ≡ false → nat_eq r at ≡ true
alone_at true at r i h = absurd (both_ways (in_operand true at r) (or_parts (in_operand true at r) false h).0 i)
alone_at false at r i h = i

alone_parts : (u v : Bool) (a b r : ℕ) → list_any (λ at. in_operand true at r) (first_if u a ++ first_if v b) ≡ false
    → (list_any (λ at. in_operand true at r) (first_if u a) ≡ false) × (list_any (λ at. in_operand true at r) (first_if v b) ≡ false)
alone_parts true v a b r h = let p : (in_operand true a r ≡ false) × (list_any (λ at. in_operand true at r) (first_if v b) ≡ false) = or_parts (in_operand true a r) (list_any (λ at. in_operand true at r) (first_if v b)) h in (ap (λ t. t || false) p.0, p.1)
alone_parts false v a b r h = (refl, h)

one : (r at : ℕ) → nat_eq r at ≡ true → list_any (nat_eq r) (at ∷ []) ≡ true
one r at e = or_left (nat_eq r at) false e

two_alone : (u v : Bool) (a b r : ℕ) → (in_operand u a r || in_operand v b r) ≡ true → list_any (λ at. in_operand true at r) (first_if u a ++ first_if v b) ≡ false → list_any (nat_eq r) (a ∷ b ∷ []) ≡ true
two_alone u v a b r i h =
    let p : (list_any (λ at. in_operand true at r) (first_if u a) ≡ false) × (list_any (λ at. in_operand true at r) (first_if v b) ≡ false) = alone_parts u v a b r h in
    elim (or_cases (in_operand u a r) (in_operand v b r) i) [
      | inl j ↦ or_left (nat_eq r a) (list_any (nat_eq r) (b ∷ [])) (alone_at u a r j p.0)
      | inr j ↦ or_right (nat_eq r a) (list_any (nat_eq r) (b ∷ [])) (one r b (alone_at v b r j p.1))
    ]

two : (a b r : ℕ) → (nat_eq r a || nat_eq r b) ≡ true → list_any (nat_eq r) (a ∷ b ∷ []) ≡ true
two a b r i = elim (or_cases (nat_eq r a) (nat_eq r b) i) [ inl e ↦ or_left (nat_eq r a) (list_any (nat_eq r) (b ∷ [])) e | inr e ↦ or_right (nat_eq r a) (list_any (nat_eq r) (b ∷ [])) (one r b e) ]

turned : (r : ℕ) (xs : List ℕ) → list_any (λ a. nat_eq a r) xs ≡ true → list_any (nat_eq r) xs ≡ true
turned r [] h = h
turned r (x ∷ xs) h = elim (or_cases (nat_eq x r) (list_any (λ a. nat_eq a r) xs) h) [
  | inl e ↦ or_left (nat_eq r x) (list_any (nat_eq r) xs) (eq-eqb r x (sym (eqb-true x r e)))
  | inr i ↦ or_right (nat_eq r x) (list_any (nat_eq r) xs) (turned r xs i)
]

put_alone : (v : Bool) (from array index r : ℕ) → (in_operand v from r || nat_eq r array || nat_eq r index) ≡ true → list_any (λ at. in_operand true at r) (first_if v from) ≡ false → list_any (nat_eq r) (from ∷ array ∷ index ∷ []) ≡ true
put_alone v from array index r i h = first (or_three (in_operand v from r) (nat_eq r array) (nat_eq r index) i)
  where
    or_three : (x y z : Bool) → (x || y || z) ≡ true → (x ≡ true) ⊎ ((y || z) ≡ true)
    or_three true y z e = inl refl
    or_three false y z e = inr e

    first : (in_operand v from r ≡ true) ⊎ ((nat_eq r array || nat_eq r index) ≡ true) → list_any (nat_eq r) (from ∷ array ∷ index ∷ []) ≡ true
    first (inl j) = or_left (nat_eq r from) (list_any (nat_eq r) (array ∷ index ∷ [])) (alone_at v from r j h)
    first (inr j) = or_right (nat_eq r from) (list_any (nat_eq r) (array ∷ index ∷ [])) (two array index r j)

narrow_operand : (w : List (List Bool)) (f : Insn) (r : ℕ) → reads_of f r ≡ true → list_any (λ at. in_operand true at r) (wides_read w f) ≡ false → list_any (nat_eq r) (operands_of f) ≡ true
narrow_operand w (Move slot to from) r i h = one r from (alone_at (is_wide_slot slot) from r i h)
narrow_operand w (Return slot from) r i h = one r from (alone_at (is_wide_slot slot) from r i h)
narrow_operand w (MonitorEnter on) r i h = one r on i
narrow_operand w (MonitorExit on) r i h = one r on i
narrow_operand w (CheckCast on kind) r i h = one r on i
narrow_operand w (InstanceOf to from kind) r i h = one r from i
narrow_operand w (ArrayLength to from) r i h = one r from i
narrow_operand w (NewArray to size kind) r i h = one r size i
narrow_operand w (FilledNewArray kind args) r i h = turned r args i
narrow_operand w (FillArray on width items) r i h = one r on i
narrow_operand w (Throw on) r i h = one r on i
narrow_operand w (PackedSwitch on first targets) r i h = one r on i
narrow_operand w (SparseSwitch on keys targets) r i h = one r on i
narrow_operand w (Cmp op to a b) r i h = two_alone (compares_wide op) (compares_wide op) a b r i h
narrow_operand w (If test a b target) r i h = two a b r i
narrow_operand w (IfZero test a target) r i h = one r a i
narrow_operand w (ArrayGet item to array index) r i h = two array index r i
narrow_operand w (ArrayPut item from array index) r i h = put_alone (is_wide_item item) from array index r i h
narrow_operand w (InstanceGet item to on field) r i h = one r on i
narrow_operand w (InstancePut item from on field) r i h = elim (or_cases (in_operand (is_wide_item item) from r) (nat_eq r on) i) [
  | inl j ↦ or_left (nat_eq r from) (list_any (nat_eq r) (on ∷ [])) (alone_at (is_wide_item item) from r j h)
  | inr j ↦ or_right (nat_eq r from) (list_any (nat_eq r) (on ∷ [])) (one r on j)
]
narrow_operand w (StaticPut item from field) r i h = one r from (alone_at (is_wide_item item) from r i h)
narrow_operand w (Invoke kind method args) r i h = turned r args i
narrow_operand w (Unary op to from) r i h = one r from (alone_at (unary_reads_wide op) from r i h)
narrow_operand w (Binary op to a b) r i h = two_alone (binary_is_wide op) (second_is_wide op) a b r i h
narrow_operand w (Literal op to a value) r i h = one r a i
narrow_operand w f r i h = absurd (cc)

pub operand_in : (w : List (List Bool)) (slot : Slot) (f : Insn) (r : ℕ) → reads_as w slot f r ≡ true → list_any (nat_eq r) (operands_of f) ≡ true
operand_in w slot f r h = at (is_wide_slot slot) h
  where
    at : (v : Bool) → (elim v [ true ↦ list_any (nat_eq r) (wides_read w f) | false ↦ reads_of f r && not (list_any (λ at. in_operand true at r) (wides_read w f)) ]) ≡ true → list_any (nat_eq r) (operands_of f) ≡ true
    at true i = wide_operand w f r i
    at false i = let p : (reads_of f r ≡ true) × (not (list_any (λ at. in_operand true at r) (wides_read w f)) ≡ true) = and_parts (reads_of f r) (not (list_any (λ at. in_operand true at r) (wides_read w f))) i in
        narrow_operand w f r p.0 (not-true (list_any (λ at. in_operand true at r) (wides_read w f)) p.1)

-- ---- other operands

operands_map : (s : ℕ → ℕ) (f : Insn) → operands_of (remade s (λ r. r) f) ≡ map s (operands_of f)
operands_map s (Move slot to from) = refl
operands_map s (Return slot from) = refl
operands_map s (MonitorEnter on) = refl
operands_map s (MonitorExit on) = refl
operands_map s (CheckCast on kind) = refl
operands_map s (InstanceOf to from kind) = refl
operands_map s (ArrayLength to from) = refl
operands_map s (NewArray to size kind) = refl
operands_map s (FilledNewArray kind args) = refl
operands_map s (FillArray on width items) = refl
operands_map s (Throw on) = refl
operands_map s (PackedSwitch on first targets) = refl
operands_map s (SparseSwitch on keys targets) = refl
operands_map s (Cmp op to a b) = refl
operands_map s (If test a b target) = refl
operands_map s (IfZero test a target) = refl
operands_map s (ArrayGet item to array index) = refl
operands_map s (ArrayPut item from array index) = refl
operands_map s (InstanceGet item to on field) = refl
operands_map s (InstancePut item from on field) = refl
operands_map s (StaticPut item from field) = refl
operands_map s (Invoke kind method args) = refl
operands_map s (Unary op to from) = refl
operands_map s (Binary op to a b) = refl
operands_map s (Literal op to a value) = refl
operands_map s f = refl

fixed : (s : ℕ → ℕ) (xs : List ℕ) (r : ℕ) → map s xs ≡ xs → list_any (nat_eq r) xs ≡ true → s r ≡ r
fixed s [] r e h = absurd (cc)
fixed s (x ∷ xs) r e h =
    let head : s x ≡ x = cc in
    let tail : map s xs ≡ xs = cc in
    elim (or_cases (nat_eq r x) (list_any (nat_eq r) xs) h) [
      | inl i ↦ subst (λ n. s n ≡ n) (sym (eqb-true r x i)) head
      | inr i ↦ fixed s xs r tail i
    ]

-- an instruction that stays the same keeps each operand
pub keeps_operand : (s : ℕ → ℕ) (f : Insn) (r : ℕ) → remade s (λ r. r) f ≡ f → list_any (nat_eq r) (operands_of f) ≡ true → s r ≡ r
keeps_operand s f r e h = fixed s (operands_of f) r (sym (operands_map s f) ∙ ap operands_of e) h

pub remade_same : (f : Insn) → remade (λ r. r) (λ r. r) f ≡ f
remade_same (FilledNewArray kind args) = ap (λ xs. FilledNewArray kind xs) (map-id args)
remade_same (Invoke kind method args) = ap (λ xs. Invoke kind method xs) (map-id args)
remade_same (Move slot to from) = refl
remade_same (MoveResult slot to) = refl
remade_same (MoveException to) = refl
remade_same (Return slot from) = refl
remade_same (Const to value) = refl
remade_same (ConstWide to value) = refl
remade_same (ConstString to string) = refl
remade_same (ConstClass to kind) = refl
remade_same (MonitorEnter on) = refl
remade_same (MonitorExit on) = refl
remade_same (CheckCast on kind) = refl
remade_same (InstanceOf to from kind) = refl
remade_same (ArrayLength to from) = refl
remade_same (NewInstance to kind) = refl
remade_same (NewArray to size kind) = refl
remade_same (FillArray on width items) = refl
remade_same (Throw on) = refl
remade_same (PackedSwitch on first targets) = refl
remade_same (SparseSwitch on keys targets) = refl
remade_same (Cmp op to a b) = refl
remade_same (If test a b target) = refl
remade_same (IfZero test a target) = refl
remade_same (ArrayGet item to array index) = refl
remade_same (ArrayPut item from array index) = refl
remade_same (InstanceGet item to on field) = refl
remade_same (InstancePut item from on field) = refl
remade_same (StaticGet item to field) = refl
remade_same (StaticPut item from field) = refl
remade_same (Unary op to from) = refl
remade_same (Binary op to a b) = refl
remade_same (Literal op to a value) = refl
remade_same f = refl
