-- The registers of an instruction that fits a body are the body's.
use Rattle.std.proofs.Common.{◌≡◌, ℕ, ◌+◌, ◌<◌, Bool, true, false, List, [], ◌∷◌, refl, ltb-true, eqb-true, arith}
use Rattle.std.specs.Prelude.{◌&&◌, ◌||◌, nat_eq, nat_lt}
use Rattle.std.specs.List.{list_any}
use Rattle.lemmas.proofs.Bools.{and_right, clash}
use Rattle.insn_set.specs.Registers.{in_operand, reads_of, writes_of}
use Rattle.insn_set.specs.Widths.{is_wide_slot, is_wide_item, compares_wide, unary_reads_wide, unary_writes_wide, binary_is_wide, second_is_wide}
use Rattle.insn_set.specs.declared.form.Insn.{Insn}
use Rattle.insn_set.specs.declared.form.Insn.TheVariants as insn
use Rattle.program_model.specs.OperandRules.{has_room, are_registers, registers_fit}
use Rattle.program_laws.proofs.ChangedLists.{and_left}

pub either : (a b : Bool) {C : Type 0} → (a || b) ≡ true → (a ≡ true → C) → (b ≡ true → C) → C
either true b e f g = f refl
either false b e f g = g e

-- of `n` registers, `r` is one
module _ (n r : ℕ) where
  one : (x : ℕ) → nat_lt x n ≡ true → nat_eq r x ≡ true → r < n
  one x h e = let k = eqb-true r x e in let lt = ltb-true x n h in omega (arith, k, lt)

  operand : (b : Bool) (x : ℕ) → has_room b x n ≡ true → in_operand b x r ≡ true → r < n
  operand false x h e = one x h e
  operand true x h e = let lt = ltb-true (x + 1) n h in
      either (nat_eq r x) (nat_eq r (x + 1)) e (λ i. let k = eqb-true r x i in omega (arith, k, lt)) (λ i. let k = eqb-true r (x + 1) i in omega (arith, k, lt))

  argument : (xs : List ℕ) → are_registers xs n ≡ true → list_any (λ a. nat_eq a r) xs ≡ true → r < n
  argument [] h e = clash false e refl
  argument (x ∷ xs) h e = either (nat_eq x r) (list_any (λ a. nat_eq a r) xs) e
      (λ i. let k = eqb-true x r i in let lt = ltb-true x n (and_left (nat_lt x n) (are_registers xs n) h) in omega (arith, k, lt))
      (argument xs (and_right (nat_lt x n) (are_registers xs n) h))

  two : (a b : Bool) (p q : Bool) → (a && b) ≡ true → (p || q) ≡ true → (a ≡ true → p ≡ true → r < n) → (b ≡ true → q ≡ true → r < n) → r < n
  two a b p q h e f g = either p q e (f (and_left a b h)) (g (and_right a b h))

  pub reads_below : (i : Insn) → registers_fit i n ≡ true → reads_of i r ≡ true → r < n
  unfolding registers_fit
  reads_below (insn.Move slot to from) h e = operand (is_wide_slot slot) from (and_right (has_room (is_wide_slot slot) to n) _ h) e
  reads_below (insn.Return slot from) h e = operand (is_wide_slot slot) from h e
  reads_below (insn.MonitorEnter on) h e = one on h e
  reads_below (insn.MonitorExit on) h e = one on h e
  reads_below (insn.CheckCast on kind) h e = one on h e
  reads_below (insn.InstanceOf to from kind) h e = one from (and_right (nat_lt to n) (nat_lt from n) h) e
  reads_below (insn.ArrayLength to from) h e = one from (and_right (nat_lt to n) (nat_lt from n) h) e
  reads_below (insn.NewArray to size kind) h e = one size (and_right (nat_lt to n) (nat_lt size n) h) e
  reads_below (insn.FilledNewArray kind args) h e = argument args h e
  reads_below (insn.FillArray on width items) h e = one on h e
  reads_below (insn.Throw on) h e = one on h e
  reads_below (insn.PackedSwitch on first targets) h e = one on h e
  reads_below (insn.SparseSwitch on keys targets) h e = one on h e
  reads_below (insn.Cmp op to a b) h e = two (has_room (compares_wide op) a n) (has_room (compares_wide op) b n) _ _ (and_right (nat_lt to n) _ h) e (operand (compares_wide op) a) (operand (compares_wide op) b)
  reads_below (insn.If test a b target) h e = two (nat_lt a n) (nat_lt b n) _ _ h e (one a) (one b)
  reads_below (insn.IfZero test a target) h e = one a h e
  reads_below (insn.ArrayGet item to array index) h e = two (nat_lt array n) (nat_lt index n) _ _ (and_right (has_room (is_wide_item item) to n) _ h) e (one array) (one index)
  reads_below (insn.ArrayPut item from array index) h e =
      let places = and_right (has_room (is_wide_item item) from n) (nat_lt array n && nat_lt index n) h in
      either (in_operand (is_wide_item item) from r || nat_eq r array) (nat_eq r index) e
      (λ i. either (in_operand (is_wide_item item) from r) (nat_eq r array) i (operand (is_wide_item item) from (and_left (has_room (is_wide_item item) from n) (nat_lt array n && nat_lt index n) h)) (one array (and_left (nat_lt array n) (nat_lt index n) places)))
      (one index (and_right (nat_lt array n) (nat_lt index n) places))
  reads_below (insn.InstanceGet item to on field) h e = one on (and_right (has_room (is_wide_item item) to n) (nat_lt on n) h) e
  reads_below (insn.InstancePut item from on field) h e = two (has_room (is_wide_item item) from n) (nat_lt on n) _ _ h e (operand (is_wide_item item) from) (one on)
  reads_below (insn.StaticPut item from field) h e = operand (is_wide_item item) from h e
  reads_below (insn.Invoke kind method args) h e = argument args h e
  reads_below (insn.Unary op to from) h e = operand (unary_reads_wide op) from (and_right (has_room (unary_writes_wide op) to n) _ h) e
  reads_below (insn.Binary op to a b) h e = two (has_room (binary_is_wide op) a n) (has_room (second_is_wide op) b n) _ _ (and_right (has_room (binary_is_wide op) to n) _ h) e (operand (binary_is_wide op) a) (operand (second_is_wide op) b)
  reads_below (insn.Literal op to a value) h e = one a (and_right (nat_lt to n) (nat_lt a n) h) e
  reads_below i h e = clash false e refl

  pub writes_below : (i : Insn) → registers_fit i n ≡ true → writes_of i r ≡ true → r < n
  unfolding registers_fit
  writes_below (insn.Move slot to from) h e = operand (is_wide_slot slot) to (and_left _ (has_room (is_wide_slot slot) from n) h) e
  writes_below (insn.MoveResult slot to) h e = operand (is_wide_slot slot) to h e
  writes_below (insn.MoveException to) h e = one to h e
  writes_below (insn.Const to value) h e = one to h e
  writes_below (insn.ConstWide to value) h e = operand true to h e
  writes_below (insn.ConstString to string) h e = one to h e
  writes_below (insn.ConstClass to kind) h e = one to h e
  writes_below (insn.InstanceOf to from kind) h e = one to (and_left (nat_lt to n) (nat_lt from n) h) e
  writes_below (insn.ArrayLength to from) h e = one to (and_left (nat_lt to n) (nat_lt from n) h) e
  writes_below (insn.NewInstance to kind) h e = one to h e
  writes_below (insn.NewArray to size kind) h e = one to (and_left (nat_lt to n) (nat_lt size n) h) e
  writes_below (insn.Cmp op to a b) h e = one to (and_left (nat_lt to n) (has_room (compares_wide op) a n && has_room (compares_wide op) b n) h) e
  writes_below (insn.ArrayGet item to array index) h e = operand (is_wide_item item) to (and_left (has_room (is_wide_item item) to n) (nat_lt array n && nat_lt index n) h) e
  writes_below (insn.InstanceGet item to on field) h e = operand (is_wide_item item) to (and_left (has_room (is_wide_item item) to n) (nat_lt on n) h) e
  writes_below (insn.StaticGet item to field) h e = operand (is_wide_item item) to h e
  writes_below (insn.Unary op to from) h e = operand (unary_writes_wide op) to (and_left (has_room (unary_writes_wide op) to n) (has_room (unary_reads_wide op) from n) h) e
  writes_below (insn.Binary op to a b) h e = operand (binary_is_wide op) to (and_left (has_room (binary_is_wide op) to n) (has_room (binary_is_wide op) a n && has_room (second_is_wide op) b n) h) e
  writes_below (insn.Literal op to a value) h e = one to (and_left (nat_lt to n) (nat_lt a n) h) e
  writes_below i h e = clash false e refl
