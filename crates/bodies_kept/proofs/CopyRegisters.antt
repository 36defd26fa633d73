-- Registers are among so many where those that are read have other numbers.
use Rattle.std.proofs.Common.{◌≡◌, ℕ, ◌+◌, ◌<◌, Bool, true, false, List, [], ◌∷◌, ◌++◌, map, refl, lt-ltb, eq-eqb}
use Rattle.std.specs.Prelude.{◌&&◌, ◌||◌, nat_eq, nat_lt}
use Rattle.std.specs.List.{list_any}
use Rattle.std.proofs.lemmas.Bool.{or_left, or_right, false≢true}
use Rattle.insn_set.specs.Registers.{in_operand, reads_of, writes_of}
use Rattle.insn_set.specs.Widths.{is_wide_slot, is_wide_item, compares_wide, unary_reads_wide, unary_writes_wide, binary_is_wide, second_is_wide}
use Rattle.insn_set.specs.declared.form.Insn.{Insn}
use Rattle.insn_set.specs.declared.form.Insn.TheVariants.{Nop, Move, MoveResult, MoveException, Return, Const, ConstWide, ConstString, ConstClass, MonitorEnter, MonitorExit, CheckCast, InstanceOf, ArrayLength, NewInstance, NewArray, FilledNewArray, FillArray, Throw, PackedSwitch, SparseSwitch, Cmp, If, IfZero, ArrayGet, ArrayPut, InstanceGet, InstancePut, StaticGet, StaticPut, Invoke, Unary, Binary, Literal}
use Rattle.program_model.specs.OperandRules.{has_room, are_registers, registers_fit}
use Rattle.program_laws.proofs.ChangedLists.{and_both}
use Rattle.form_laws.proofs.Asked.{any_front, any_back}
use Rattle.insn_regs.specs.Remade.{remade}
use Rattle.insn_regs.specs.Wides.{first_if}

wide_one : (v : Bool) (x : ℕ) → v ≡ true → list_any (nat_eq x) (first_if v x) ≡ true
wide_one true x e = or_left (nat_eq x x) false (eq-eqb x x refl)
wide_one false x e = absurd (false≢true e)

-- the first registers of wide operands that an instruction spells as such, not as arguments
abbrev pub wide_operands : Insn → List ℕ
wide_operands (Move slot to from) = first_if (is_wide_slot slot) from
wide_operands (Return slot from) = first_if (is_wide_slot slot) from
wide_operands (Cmp op to a b) = first_if (compares_wide op) a ++ first_if (compares_wide op) b
wide_operands (ArrayPut item from array index) = first_if (is_wide_item item) from
wide_operands (InstancePut item from on field) = first_if (is_wide_item item) from
wide_operands (StaticPut item from field) = first_if (is_wide_item item) from
wide_operands (Unary op to from) = first_if (unary_reads_wide op) from
wide_operands (Binary op to a b) = first_if (binary_is_wide op) a ++ first_if (second_is_wide op) b
wide_operands f = []

module _ (g : ℕ → ℕ) (n : ℕ) where
  narrow : (x : ℕ) → ((r : ℕ) → nat_eq r x ≡ true → g r < n) → nat_lt (g x) n ≡ true
  narrow x room = lt-ltb (g x) n (room x (eq-eqb x x refl))

  operand : (v : Bool) (x : ℕ) → ((r : ℕ) → in_operand v x r ≡ true → g r < n) → (v ≡ true → g x + 1 < n) → has_room v (g x) n ≡ true
  operand false x room side = narrow x room
  operand true x room side = lt-ltb (g x + 1) n (side refl)

  -- what is written stays
  placed : (x : ℕ) → ((r : ℕ) → nat_eq r x ≡ true → r < n) → nat_lt x n ≡ true
  placed x room = lt-ltb x n (room x (eq-eqb x x refl))

  into : (v : Bool) (x : ℕ) → ((r : ℕ) → in_operand v x r ≡ true → r < n) → has_room v x n ≡ true
  into false x room = placed x room
  into true x room = lt-ltb (x + 1) n (room (x + 1) (or_right (nat_eq (x + 1) x) (nat_eq (x + 1) (x + 1)) (eq-eqb (x + 1) (x + 1) refl)))

  arguments : (xs : List ℕ) → ((r : ℕ) → list_any (λ a. nat_eq a r) xs ≡ true → g r < n) → are_registers (map g xs) n ≡ true
  arguments [] room = refl
  arguments (x ∷ xs) room = and_both (nat_lt (g x) n) (are_registers (map g xs) n) (lt-ltb (g x) n (room x (or_left (nat_eq x x) (list_any (λ a. nat_eq a x) xs) (eq-eqb x x refl))))
      (arguments xs (λ r e. room r (or_right (nat_eq x r) (list_any (λ a. nat_eq a r) xs) e)))

  -- the numbers of what an instruction reads are there, for a wide operand both, and so is what it writes
  pub fits : (f : Insn) → ((r : ℕ) → reads_of f r ≡ true → g r < n) → ((r : ℕ) → writes_of f r ≡ true → r < n) → ((x : ℕ) → list_any (nat_eq x) (wide_operands f) ≡ true → g x + 1 < n)
      → registers_fit (remade g (λ r. r) f) n ≡ true
  unfolding registers_fit
  fits Nop rd wr wd = refl
  fits (Move slot to from) rd wr wd = and_both (has_room (is_wide_slot slot) to n) (has_room (is_wide_slot slot) (g from) n) (into (is_wide_slot slot) to wr) (operand (is_wide_slot slot) from rd (λ v. wd from (wide_one (is_wide_slot slot) from v)))
  fits (MoveResult slot to) rd wr wd = into (is_wide_slot slot) to wr
  fits (MoveException to) rd wr wd = placed to wr
  fits (Return slot from) rd wr wd = operand (is_wide_slot slot) from rd (λ v. wd from (wide_one (is_wide_slot slot) from v))
  fits (Const to value) rd wr wd = placed to wr
  fits (ConstWide to value) rd wr wd = into (true) to wr
  fits (ConstString to string) rd wr wd = placed to wr
  fits (ConstClass to kind) rd wr wd = placed to wr
  fits (NewInstance to kind) rd wr wd = placed to wr
  fits (MonitorEnter on) rd wr wd = narrow on rd
  fits (MonitorExit on) rd wr wd = narrow on rd
  fits (CheckCast on kind) rd wr wd = narrow on rd
  fits (FillArray on width items) rd wr wd = narrow on rd
  fits (Throw on) rd wr wd = narrow on rd
  fits (PackedSwitch on first targets) rd wr wd = narrow on rd
  fits (SparseSwitch on keys targets) rd wr wd = narrow on rd
  fits (InstanceOf to from kind) rd wr wd = and_both (nat_lt to n) (nat_lt (g from) n) (placed to wr) (narrow from rd)
  fits (ArrayLength to from) rd wr wd = and_both (nat_lt to n) (nat_lt (g from) n) (placed to wr) (narrow from rd)
  fits (NewArray to size kind) rd wr wd = and_both (nat_lt to n) (nat_lt (g size) n) (placed to wr) (narrow size rd)
  fits (FilledNewArray kind args) rd wr wd = arguments args rd
  fits (Invoke kind method args) rd wr wd = arguments args rd
  fits (Cmp op to a b) rd wr wd = and_both (nat_lt to n) (has_room (compares_wide op) (g a) n && has_room (compares_wide op) (g b) n) (placed to wr) (and_both (has_room (compares_wide op) (g a) n) (has_room (compares_wide op) (g b) n) (operand (compares_wide op) a (λ r e. rd r (or_left (in_operand (compares_wide op) a r) (in_operand (compares_wide op) b r) e)) (λ v. wd a (any_front a (first_if (compares_wide op) a) (first_if (compares_wide op) b) (wide_one (compares_wide op) a v)))) (operand (compares_wide op) b (λ r e. rd r (or_right (in_operand (compares_wide op) a r) (in_operand (compares_wide op) b r) e)) (λ v. wd b (any_back b (first_if (compares_wide op) a) (first_if (compares_wide op) b) (wide_one (compares_wide op) b v)))))
  fits (If test a b target) rd wr wd = and_both (nat_lt (g a) n) (nat_lt (g b) n) (narrow a (λ r e. rd r (or_left (nat_eq r a) (nat_eq r b) e))) (narrow b (λ r e. rd r (or_right (nat_eq r a) (nat_eq r b) e)))
  fits (IfZero test a target) rd wr wd = narrow a rd
  fits (ArrayGet item to array index) rd wr wd = and_both (has_room (is_wide_item item) to n) (nat_lt (g array) n && nat_lt (g index) n) (into (is_wide_item item) to wr) (and_both (nat_lt (g array) n) (nat_lt (g index) n) (narrow array (λ r e. rd r (or_left (nat_eq r array) (nat_eq r index) e))) (narrow index (λ r e. rd r (or_right (nat_eq r array) (nat_eq r index) e))))
  fits (ArrayPut item from array index) rd wr wd = and_both (has_room (is_wide_item item) (g from) n) (nat_lt (g array) n && nat_lt (g index) n)
      (operand (is_wide_item item) from (λ r e. rd r (or_left (in_operand (is_wide_item item) from r || nat_eq r array) (nat_eq r index) (or_left (in_operand (is_wide_item item) from r) (nat_eq r array) e))) (λ v. wd from (wide_one (is_wide_item item) from v)))
      (and_both (nat_lt (g array) n) (nat_lt (g index) n) (narrow array (λ r e. rd r (or_left (in_operand (is_wide_item item) from r || nat_eq r array) (nat_eq r index) (or_right (in_operand (is_wide_item item) from r) (nat_eq r array) e)))) (narrow index (λ r e. rd r (or_right (in_operand (is_wide_item item) from r || nat_eq r array) (nat_eq r index) e))))
  fits (InstanceGet item to on field) rd wr wd = and_both (has_room (is_wide_item item) to n) (nat_lt (g on) n) (into (is_wide_item item) to wr) (narrow on rd)
  fits (InstancePut item from on field) rd wr wd = and_both (has_room (is_wide_item item) (g from) n) (nat_lt (g on) n) (operand (is_wide_item item) from (λ r e. rd r (or_left (in_operand (is_wide_item item) from r) (nat_eq r on) e)) (λ v. wd from (wide_one (is_wide_item item) from v))) (narrow on (λ r e. rd r (or_right (in_operand (is_wide_item item) from r) (nat_eq r on) e)))
  fits (StaticGet item to field) rd wr wd = into (is_wide_item item) to wr
  fits (StaticPut item from field) rd wr wd = operand (is_wide_item item) from rd (λ v. wd from (wide_one (is_wide_item item) from v))
  fits (Unary op to from) rd wr wd = and_both (has_room (unary_writes_wide op) to n) (has_room (unary_reads_wide op) (g from) n) (into (unary_writes_wide op) to wr) (operand (unary_reads_wide op) from rd (λ v. wd from (wide_one (unary_reads_wide op) from v)))
  fits (Binary op to a b) rd wr wd = and_both (has_room (binary_is_wide op) to n) (has_room (binary_is_wide op) (g a) n && has_room (second_is_wide op) (g b) n) (into (binary_is_wide op) to wr) (and_both (has_room (binary_is_wide op) (g a) n) (has_room (second_is_wide op) (g b) n) (operand (binary_is_wide op) a (λ r e. rd r (or_left (in_operand (binary_is_wide op) a r) (in_operand (second_is_wide op) b r) e)) (λ v. wd a (any_front a (first_if (binary_is_wide op) a) (first_if (second_is_wide op) b) (wide_one (binary_is_wide op) a v)))) (operand (second_is_wide op) b (λ r e. rd r (or_right (in_operand (binary_is_wide op) a r) (in_operand (second_is_wide op) b r) e)) (λ v. wd b (any_back b (first_if (binary_is_wide op) a) (first_if (second_is_wide op) b) (wide_one (second_is_wide op) b v)))))
  fits (Literal op to a value) rd wr wd = and_both (nat_lt to n) (nat_lt (g a) n) (placed to wr) (narrow a rd)
  fits f rd wr wd = refl
