-- An instruction that stays the same under other numbers keeps each register that it uses.
use Rattle.std.proofs.Common.{◌≡◌, ℕ, ◌+◌, Bool, true, false, List, [], ◌∷◌, ◌++◌, map, refl, sym, ap, ◌∙◌, subst, ◌⊎◌, inl, inr}
use Rattle.std.specs.Prelude.{◌||◌, nat_eq}
use Rattle.std.specs.List.{list_any}
use Rattle.std.proofs.lemmas.Bool.{eqb-true, eq-eqb, or_cases, or_left, or_right, false≢true}
use Rattle.std.proofs.lemmas.List.{map-id}
use Rattle.insn_set.specs.Registers.{in_operand, reads_of, writes_of}
use Rattle.insn_set.specs.Widths.{is_wide_slot, is_wide_item, compares_wide, unary_reads_wide, unary_writes_wide, binary_is_wide, second_is_wide}
use Rattle.insn_set.specs.declared.form.Insn.{Insn}
use Rattle.insn_set.specs.declared.form.Insn.TheVariants.{Nop, Move, MoveResult, MoveException, ReturnVoid, Return, Const, ConstWide, ConstString, ConstClass, MonitorEnter, MonitorExit, CheckCast, InstanceOf, ArrayLength, NewInstance, NewArray, FilledNewArray, FillArray, Throw, Goto, PackedSwitch, SparseSwitch, Cmp, If, IfZero, ArrayGet, ArrayPut, InstanceGet, InstancePut, StaticGet, StaticPut, Invoke, Unary, Binary, Literal}
use Rattle.insn_regs.specs.Remade.{remade}
use Rattle.insn_regs.specs.Wides.{first_if, wides_read}
use Rattle.compact.specs.Packed.{wides_written, wides_of, uses}

any_left : (r : ℕ) (xs ys : List ℕ) → list_any (nat_eq r) xs ≡ true → list_any (nat_eq r) (xs ++ ys) ≡ true
any_left r [] ys h = absurd (false≢true h)
any_left r (x ∷ xs) ys h = elim (or_cases (nat_eq r x) (list_any (nat_eq r) xs) h) [
  | inl e ↦ or_left (nat_eq r x) (list_any (nat_eq r) (xs ++ ys)) e
  | inr i ↦ or_right (nat_eq r x) (list_any (nat_eq r) (xs ++ ys)) (any_left r xs ys i)
]

any_right : (r : ℕ) (xs ys : List ℕ) → list_any (nat_eq r) ys ≡ true → list_any (nat_eq r) (xs ++ ys) ≡ true
any_right r [] ys h = h
any_right r (x ∷ xs) ys h = or_right (nat_eq r x) (list_any (nat_eq r) (xs ++ ys)) (any_right r xs ys h)

one_wide : (v : Bool) (at : ℕ) → v ≡ true → list_any (nat_eq at) (first_if v at) ≡ true
one_wide true at e = or_left (nat_eq at at) false (eq-eqb at at refl)
one_wide false at e = absurd (false≢true e)

or_three : (x y z : Bool) → (x || y || z) ≡ true → (x ≡ true) ⊎ ((y || z) ≡ true)
or_three true y z e = inl refl
or_three false y z e = inr e

module _ (g : ℕ → ℕ) where
  narrow : (at r : ℕ) → g at ≡ at → nat_eq r at ≡ true → g r ≡ r
  narrow at r e h = subst (λ n. g n ≡ n) (sym (eqb-true r at h)) e

  half : (v : Bool) (at r : ℕ) → g at ≡ at → (v ≡ true → g (at + 1) ≡ g at + 1) → in_operand v at r ≡ true → g r ≡ r
  half false at r e n h = narrow at r e h
  half true at r e n h = elim (or_cases (nat_eq r at) (nat_eq r (at + 1)) h) [ inl i ↦ narrow at r e i | inr i ↦ narrow (at + 1) r (n refl ∙ ap (λ k. k + 1) e) i ]

  among : (xs : List ℕ) (r : ℕ) → map g xs ≡ xs → list_any (λ a. nat_eq a r) xs ≡ true → g r ≡ r
  among [] r e h = absurd (false≢true h)
  among (x ∷ xs) r e h =
      let head : g x ≡ x = cc in
      let tail : map g xs ≡ xs = cc in
      elim (or_cases (nat_eq x r) (list_any (λ a. nat_eq a r) xs) h) [ inl i ↦ subst (λ n. g n ≡ n) (eqb-true x r i) head | inr i ↦ among xs r tail i ]

  module _ (w : List (List Bool)) where
    abbrev Keeps : Insn → Type 0
    Keeps f = (at : ℕ) → list_any (nat_eq at) (wides_of w f) ≡ true → g (at + 1) ≡ g at + 1

    reads_fixed : (f : Insn) (r : ℕ) → remade g g f ≡ f → Keeps f → reads_of f r ≡ true → g r ≡ r
    reads_fixed (Move slot to from) r e k h = let same : g from ≡ from = cc in half (is_wide_slot slot) from r same (λ v. k from (any_right from (wides_written (Move slot to from)) (wides_read w (Move slot to from)) (one_wide (is_wide_slot slot) from v))) h
    reads_fixed (Return slot from) r e k h = let same : g from ≡ from = cc in half (is_wide_slot slot) from r same (λ v. k from (any_right from (wides_written (Return slot from)) (wides_read w (Return slot from)) (one_wide (is_wide_slot slot) from v))) h
    reads_fixed (MonitorEnter on) r e k h = let same : g on ≡ on = cc in narrow on r same h
    reads_fixed (MonitorExit on) r e k h = let same : g on ≡ on = cc in narrow on r same h
    reads_fixed (CheckCast on kind) r e k h = let same : g on ≡ on = cc in narrow on r same h
    reads_fixed (InstanceOf to from kind) r e k h = let same : g from ≡ from = cc in narrow from r same h
    reads_fixed (ArrayLength to from) r e k h = let same : g from ≡ from = cc in narrow from r same h
    reads_fixed (NewArray to size kind) r e k h = let same : g size ≡ size = cc in narrow size r same h
    reads_fixed (FilledNewArray kind args) r e k h = let same : map g args ≡ args = cc in among args r same h
    reads_fixed (FillArray on width items) r e k h = let same : g on ≡ on = cc in narrow on r same h
    reads_fixed (Throw on) r e k h = let same : g on ≡ on = cc in narrow on r same h
    reads_fixed (PackedSwitch on first targets) r e k h = let same : g on ≡ on = cc in narrow on r same h
    reads_fixed (SparseSwitch on keys targets) r e k h = let same : g on ≡ on = cc in narrow on r same h
    reads_fixed (Cmp op to a b) r e k h = let a1 : g a ≡ a = cc in let a2 : g b ≡ b = cc in elim (or_cases (in_operand (compares_wide op) a r) (in_operand (compares_wide op) b r) h) [ inl i ↦ half (compares_wide op) a r a1 (λ v. k a (any_right a (wides_written (Cmp op to a b)) (wides_read w (Cmp op to a b)) (any_left a (first_if (compares_wide op) a) (first_if (compares_wide op) b) (one_wide (compares_wide op) a v)))) i | inr i ↦ half (compares_wide op) b r a2 (λ v. k b (any_right b (wides_written (Cmp op to a b)) (wides_read w (Cmp op to a b)) (any_right b (first_if (compares_wide op) a) (first_if (compares_wide op) b) (one_wide (compares_wide op) b v)))) i ]
    reads_fixed (If test a b target) r e k h = let a1 : g a ≡ a = cc in let a2 : g b ≡ b = cc in elim (or_cases (nat_eq r a) (nat_eq r b) h) [ inl i ↦ narrow a r a1 i | inr i ↦ narrow b r a2 i ]
    reads_fixed (IfZero test a target) r e k h = let same : g a ≡ a = cc in narrow a r same h
    reads_fixed (ArrayGet item to array index) r e k h = let a1 : g array ≡ array = cc in let a2 : g index ≡ index = cc in elim (or_cases (nat_eq r array) (nat_eq r index) h) [ inl i ↦ narrow array r a1 i | inr i ↦ narrow index r a2 i ]
    reads_fixed (ArrayPut item from array index) r e k h = let a1 : g from ≡ from = cc in let a2 : g array ≡ array = cc in let a3 : g index ≡ index = cc in elim (or_three (in_operand (is_wide_item item) from r) (nat_eq r array) (nat_eq r index) h) [ inl i ↦ half (is_wide_item item) from r a1 (λ v. k from (any_right from (wides_written (ArrayPut item from array index)) (wides_read w (ArrayPut item from array index)) (one_wide (is_wide_item item) from v))) i | inr j ↦ elim (or_cases (nat_eq r array) (nat_eq r index) j) [ inl i ↦ narrow array r a2 i | inr i ↦ narrow index r a3 i ] ]
    reads_fixed (InstanceGet item to on field) r e k h = let same : g on ≡ on = cc in narrow on r same h
    reads_fixed (InstancePut item from on field) r e k h = let a1 : g from ≡ from = cc in let a2 : g on ≡ on = cc in elim (or_cases (in_operand (is_wide_item item) from r) (nat_eq r on) h) [ inl i ↦ half (is_wide_item item) from r a1 (λ v. k from (any_right from (wides_written (InstancePut item from on field)) (wides_read w (InstancePut item from on field)) (one_wide (is_wide_item item) from v))) i | inr i ↦ narrow on r a2 i ]
    reads_fixed (StaticPut item from field) r e k h = let same : g from ≡ from = cc in half (is_wide_item item) from r same (λ v. k from (any_right from (wides_written (StaticPut item from field)) (wides_read w (StaticPut item from field)) (one_wide (is_wide_item item) from v))) h
    reads_fixed (Invoke kind method args) r e k h = let same : map g args ≡ args = cc in among args r same h
    reads_fixed (Unary op to from) r e k h = let same : g from ≡ from = cc in half (unary_reads_wide op) from r same (λ v. k from (any_right from (wides_written (Unary op to from)) (wides_read w (Unary op to from)) (one_wide (unary_reads_wide op) from v))) h
    reads_fixed (Binary op to a b) r e k h = let a1 : g a ≡ a = cc in let a2 : g b ≡ b = cc in elim (or_cases (in_operand (binary_is_wide op) a r) (in_operand (second_is_wide op) b r) h) [ inl i ↦ half (binary_is_wide op) a r a1 (λ v. k a (any_right a (wides_written (Binary op to a b)) (wides_read w (Binary op to a b)) (any_left a (first_if (binary_is_wide op) a) (first_if (second_is_wide op) b) (one_wide (binary_is_wide op) a v)))) i | inr i ↦ half (second_is_wide op) b r a2 (λ v. k b (any_right b (wides_written (Binary op to a b)) (wides_read w (Binary op to a b)) (any_right b (first_if (binary_is_wide op) a) (first_if (second_is_wide op) b) (one_wide (second_is_wide op) b v)))) i ]
    reads_fixed (Literal op to a value) r e k h = let same : g a ≡ a = cc in narrow a r same h
    reads_fixed f r e k h = absurd (cc)

    writes_fixed : (f : Insn) (r : ℕ) → remade g g f ≡ f → Keeps f → writes_of f r ≡ true → g r ≡ r
    writes_fixed (Move slot to from) r e k h = let same : g to ≡ to = cc in half (is_wide_slot slot) to r same (λ v. k to (any_left to (wides_written (Move slot to from)) (wides_read w (Move slot to from)) (one_wide (is_wide_slot slot) to v))) h
    writes_fixed (MoveResult slot to) r e k h = let same : g to ≡ to = cc in half (is_wide_slot slot) to r same (λ v. k to (any_left to (wides_written (MoveResult slot to)) (wides_read w (MoveResult slot to)) (one_wide (is_wide_slot slot) to v))) h
    writes_fixed (MoveException to) r e k h = let same : g to ≡ to = cc in narrow to r same h
    writes_fixed (Const to value) r e k h = let same : g to ≡ to = cc in narrow to r same h
    writes_fixed (ConstWide to value) r e k h = let same : g to ≡ to = cc in half (true) to r same (λ v. k to (any_left to (wides_written (ConstWide to value)) (wides_read w (ConstWide to value)) (one_wide (true) to v))) h
    writes_fixed (ConstString to string) r e k h = let same : g to ≡ to = cc in narrow to r same h
    writes_fixed (ConstClass to kind) r e k h = let same : g to ≡ to = cc in narrow to r same h
    writes_fixed (InstanceOf to from kind) r e k h = let same : g to ≡ to = cc in narrow to r same h
    writes_fixed (ArrayLength to from) r e k h = let same : g to ≡ to = cc in narrow to r same h
    writes_fixed (NewInstance to kind) r e k h = let same : g to ≡ to = cc in narrow to r same h
    writes_fixed (NewArray to size kind) r e k h = let same : g to ≡ to = cc in narrow to r same h
    writes_fixed (Cmp op to a b) r e k h = let same : g to ≡ to = cc in narrow to r same h
    writes_fixed (ArrayGet item to array index) r e k h = let same : g to ≡ to = cc in half (is_wide_item item) to r same (λ v. k to (any_left to (wides_written (ArrayGet item to array index)) (wides_read w (ArrayGet item to array index)) (one_wide (is_wide_item item) to v))) h
    writes_fixed (InstanceGet item to on field) r e k h = let same : g to ≡ to = cc in half (is_wide_item item) to r same (λ v. k to (any_left to (wides_written (InstanceGet item to on field)) (wides_read w (InstanceGet item to on field)) (one_wide (is_wide_item item) to v))) h
    writes_fixed (StaticGet item to field) r e k h = let same : g to ≡ to = cc in half (is_wide_item item) to r same (λ v. k to (any_left to (wides_written (StaticGet item to field)) (wides_read w (StaticGet item to field)) (one_wide (is_wide_item item) to v))) h
    writes_fixed (Unary op to from) r e k h = let same : g to ≡ to = cc in half (unary_writes_wide op) to r same (λ v. k to (any_left to (wides_written (Unary op to from)) (wides_read w (Unary op to from)) (one_wide (unary_writes_wide op) to v))) h
    writes_fixed (Binary op to a b) r e k h = let same : g to ≡ to = cc in half (binary_is_wide op) to r same (λ v. k to (any_left to (wides_written (Binary op to a b)) (wides_read w (Binary op to a b)) (one_wide (binary_is_wide op) to v))) h
    writes_fixed (Literal op to a value) r e k h = let same : g to ≡ to = cc in narrow to r same h
    writes_fixed f r e k h = absurd (cc)

    pub uses_fixed : (f : Insn) (r : ℕ) → remade g g f ≡ f → ((at : ℕ) → list_any (nat_eq at) (wides_of w f) ≡ true → g (at + 1) ≡ g at + 1) → uses f r ≡ true → g r ≡ r
    uses_fixed f r e k h = elim (or_cases (reads_of f r) (writes_of f r) h) [ inl i ↦ reads_fixed f r e k i | inr i ↦ writes_fixed f r e k i ]

pub same_insn : (f : Insn) → remade (λ r. r) (λ r. r) f ≡ f
same_insn Nop = refl
same_insn (Move slot to from) = refl
same_insn (MoveResult slot to) = refl
same_insn (MoveException to) = refl
same_insn ReturnVoid = refl
same_insn (Return slot from) = refl
same_insn (Const to value) = refl
same_insn (ConstWide to value) = refl
same_insn (ConstString to string) = refl
same_insn (ConstClass to kind) = refl
same_insn (MonitorEnter on) = refl
same_insn (MonitorExit on) = refl
same_insn (CheckCast on kind) = refl
same_insn (InstanceOf to from kind) = refl
same_insn (ArrayLength to from) = refl
same_insn (NewInstance to kind) = refl
same_insn (NewArray to size kind) = refl
same_insn (FilledNewArray kind args) = ap (λ xs. FilledNewArray kind xs) (map-id args)
same_insn (FillArray on width items) = refl
same_insn (Throw on) = refl
same_insn (Goto target) = refl
same_insn (PackedSwitch on first targets) = refl
same_insn (SparseSwitch on keys targets) = refl
same_insn (Cmp op to a b) = refl
same_insn (If test a b target) = refl
same_insn (IfZero test a target) = refl
same_insn (ArrayGet item to array index) = refl
same_insn (ArrayPut item from array index) = refl
same_insn (InstanceGet item to on field) = refl
same_insn (InstancePut item from on field) = refl
same_insn (StaticGet item to field) = refl
same_insn (StaticPut item from field) = refl
same_insn (Invoke kind method args) = ap (λ xs. Invoke kind method xs) (map-id args)
same_insn (Unary op to from) = refl
same_insn (Binary op to a b) = refl
same_insn (Literal op to a value) = refl

pub same_insns : (fs : List Insn) → map (remade (λ r. r) (λ r. r)) fs ≡ fs
same_insns [] = refl
same_insns (f ∷ fs) = ap (λ g. g ∷ map (remade (λ r. r) (λ r. r)) fs) (same_insn f) ∙ ap (λ gs. f ∷ gs) (same_insns fs)

-- first what is read, then what is written
pub remade_twice : (g : ℕ → ℕ) (f : Insn) → remade (λ r. r) g (remade g (λ r. r) f) ≡ remade g g f
remade_twice g Nop = refl
remade_twice g (Move slot to from) = refl
remade_twice g (MoveResult slot to) = refl
remade_twice g (MoveException to) = refl
remade_twice g ReturnVoid = refl
remade_twice g (Return slot from) = refl
remade_twice g (Const to value) = refl
remade_twice g (ConstWide to value) = refl
remade_twice g (ConstString to string) = refl
remade_twice g (ConstClass to kind) = refl
remade_twice g (MonitorEnter on) = refl
remade_twice g (MonitorExit on) = refl
remade_twice g (CheckCast on kind) = refl
remade_twice g (InstanceOf to from kind) = refl
remade_twice g (ArrayLength to from) = refl
remade_twice g (NewInstance to kind) = refl
remade_twice g (NewArray to size kind) = refl
remade_twice g (FilledNewArray kind args) = ap (λ xs. FilledNewArray kind xs) (map-id (map g args))
remade_twice g (FillArray on width items) = refl
remade_twice g (Throw on) = refl
remade_twice g (Goto target) = refl
remade_twice g (PackedSwitch on first targets) = refl
remade_twice g (SparseSwitch on keys targets) = refl
remade_twice g (Cmp op to a b) = refl
remade_twice g (If test a b target) = refl
remade_twice g (IfZero test a target) = refl
remade_twice g (ArrayGet item to array index) = refl
remade_twice g (ArrayPut item from array index) = refl
remade_twice g (InstanceGet item to on field) = refl
remade_twice g (InstancePut item from on field) = refl
remade_twice g (StaticGet item to field) = refl
remade_twice g (StaticPut item from field) = refl
remade_twice g (Invoke kind method args) = ap (λ xs. Invoke kind method xs) (map-id (map g args))
remade_twice g (Unary op to from) = refl
remade_twice g (Binary op to a b) = refl
remade_twice g (Literal op to a value) = refl
