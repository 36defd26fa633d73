-- What an instruction writes, as one operand, and that it reads its operands.
use Rattle.std.proofs.Common.{◌≡◌, ◌⊎◌, inl, inr, ℕ, ◌+◌, Bool, true, false, true≢false, nat_eq, List, [], ◌∷◌, ◌++◌, Contains, refl, sym, ap, ◌∙◌, subst, eqb-true, eq-eqb}
use Rattle.std.specs.Prelude.{◌||◌}
use Rattle.std.specs.List.{list_any}
use Rattle.std.proofs.lemmas.Bool.{or_left, or_right}
use Rattle.std.proofs.lemmas.List.Elements.{Contains-append_left, Contains-append_right}
use Rattle.insn_set.specs.Registers.{in_operand, reads_of, writes_of}
use Rattle.insn_set.specs.Widths.{is_wide_slot, is_wide_item, compares_wide, unary_reads_wide, unary_writes_wide, binary_is_wide, second_is_wide}
use Rattle.insn_set.specs.declared.form.Insn.{Insn}
use Rattle.insn_set.specs.declared.form.Insn.TheVariants as insn
use Rattle.insn_regs.specs.Remade.{remade, operands_of}
use Rattle.insn_regs.specs.Wides.{first_if, wides_read}
use Rattle.body_graph.proofs.Members.{none, split}
use Rattle.compact.specs.Packed.{wides_written, wides_of}
use Rattle.moves_law.proofs.Lists.{either, is_in, in_it}

-- ---- operands

pub first_in : (v : Bool) (at : ℕ) → in_operand v at at ≡ true
first_in true at = or_left (nat_eq at at) (nat_eq at (at + 1)) (eq-eqb at at refl)
first_in false at = eq-eqb at at refl

pub wide_one : (v : Bool) (at : ℕ) → v ≡ true → list_any (nat_eq at) (first_if v at) ≡ true
wide_one true at e = or_left (nat_eq at at) false (eq-eqb at at refl)
wide_one false at e = absurd (true≢false (sym e))

module _ (g : ℕ → ℕ) where
  -- the renamed register is in the renamed operand
  operand_on : (v : Bool) (to r : ℕ) → (v ≡ true → g (to + 1) ≡ g to + 1) → in_operand v to r ≡ true → in_operand v (g to) (g r) ≡ true
  operand_on false to r pair e = eq-eqb (g r) (g to) (ap g (eqb-true r to e))
  operand_on true to r pair e = either (nat_eq r to) (nat_eq r (to + 1)) e
      (λ i. or_left (nat_eq (g r) (g to)) (nat_eq (g r) (g to + 1)) (eq-eqb (g r) (g to) (ap g (eqb-true r to i))))
      (λ i. or_right (nat_eq (g r) (g to)) (nat_eq (g r) (g to + 1)) (eq-eqb (g r) (g to + 1) (ap g (eqb-true r (to + 1) i) ∙ pair refl)))

  -- and what is in it has the number of a register of the operand
  operand_back : (v : Bool) (to r : ℕ) → (v ≡ true → g (to + 1) ≡ g to + 1) → in_operand v (g to) (g r) ≡ true → (s : ℕ) × (in_operand v to s ≡ true) × (g s ≡ g r)
  operand_back false to r pair e = (to, eq-eqb to to refl, sym (eqb-true (g r) (g to) e))
  operand_back true to r pair e = either (nat_eq (g r) (g to)) (nat_eq (g r) (g to + 1)) e
      (λ i. (to, first_in true to, sym (eqb-true (g r) (g to) i)))
      (λ i. (to + 1, or_right (nat_eq (to + 1) to) (nat_eq (to + 1) (to + 1)) (eq-eqb (to + 1) (to + 1) refl), pair refl ∙ sym (eqb-true (g r) (g to + 1) i)))

-- ---- what is written

-- an instruction writes one operand
record Writes (f : Insn) : Type 0 where
  wide : Bool
  to : ℕ
  is : (r : ℕ) → writes_of f r ≡ in_operand wide to r
  other : (g : ℕ → ℕ) (r : ℕ) → writes_of (remade g g f) r ≡ in_operand wide (g to) r
  pair : wide ≡ true → list_any (nat_eq to) (wides_written f) ≡ true

record WritesNone (f : Insn) : Type 0 where
  none : (r : ℕ) → writes_of f r ≡ false
  never : (g : ℕ → ℕ) (r : ℕ) → writes_of (remade g g f) r ≡ false

no_pair : {X : Type 0} → false ≡ true → X
no_pair e = absurd (true≢false (sym e))

written : (f : Insn) → Writes f ⊎ WritesNone f
written (insn.Move slot to from) = inl (record { wide = is_wide_slot slot; to = to; is = λ r. refl; other = λ g r. refl; pair = wide_one (is_wide_slot slot) to })
written (insn.MoveResult slot to) = inl (record { wide = is_wide_slot slot; to = to; is = λ r. refl; other = λ g r. refl; pair = wide_one (is_wide_slot slot) to })
written (insn.MoveException to) = inl (record { wide = false; to = to; is = λ r. refl; other = λ g r. refl; pair = no_pair })
written (insn.Const to value) = inl (record { wide = false; to = to; is = λ r. refl; other = λ g r. refl; pair = no_pair })
written (insn.ConstWide to value) = inl (record { wide = true; to = to; is = λ r. refl; other = λ g r. refl; pair = wide_one true to })
written (insn.ConstString to string) = inl (record { wide = false; to = to; is = λ r. refl; other = λ g r. refl; pair = no_pair })
written (insn.ConstClass to kind) = inl (record { wide = false; to = to; is = λ r. refl; other = λ g r. refl; pair = no_pair })
written (insn.InstanceOf to from kind) = inl (record { wide = false; to = to; is = λ r. refl; other = λ g r. refl; pair = no_pair })
written (insn.ArrayLength to from) = inl (record { wide = false; to = to; is = λ r. refl; other = λ g r. refl; pair = no_pair })
written (insn.NewInstance to kind) = inl (record { wide = false; to = to; is = λ r. refl; other = λ g r. refl; pair = no_pair })
written (insn.NewArray to size kind) = inl (record { wide = false; to = to; is = λ r. refl; other = λ g r. refl; pair = no_pair })
written (insn.Cmp op to a b) = inl (record { wide = false; to = to; is = λ r. refl; other = λ g r. refl; pair = no_pair })
written (insn.ArrayGet item to array index) = inl (record { wide = is_wide_item item; to = to; is = λ r. refl; other = λ g r. refl; pair = wide_one (is_wide_item item) to })
written (insn.InstanceGet item to on field) = inl (record { wide = is_wide_item item; to = to; is = λ r. refl; other = λ g r. refl; pair = wide_one (is_wide_item item) to })
written (insn.StaticGet item to field) = inl (record { wide = is_wide_item item; to = to; is = λ r. refl; other = λ g r. refl; pair = wide_one (is_wide_item item) to })
written (insn.Unary op to from) = inl (record { wide = unary_writes_wide op; to = to; is = λ r. refl; other = λ g r. refl; pair = wide_one (unary_writes_wide op) to })
written (insn.Binary op to a b) = inl (record { wide = binary_is_wide op; to = to; is = λ r. refl; other = λ g r. refl; pair = wide_one (binary_is_wide op) to })
written (insn.Literal op to a value) = inl (record { wide = false; to = to; is = λ r. refl; other = λ g r. refl; pair = no_pair })
written insn.Nop = inr (record { none = λ r. refl; never = λ g r. refl })
written f = inr (record { none = λ r. refl; never = λ g r. refl })

-- halves of the wide operands of an instruction stay side by side
abbrev pub Paired : List (List Bool) → (ℕ → ℕ) → Insn → Type 0
Paired w g f = (at : ℕ) → list_any (nat_eq at) (wides_of w f) ≡ true → g (at + 1) ≡ g at + 1

pub any_front : (at : ℕ) (xs ys : List ℕ) → list_any (nat_eq at) xs ≡ true → list_any (nat_eq at) (xs ++ ys) ≡ true
any_front at xs ys e = is_in at (xs ++ ys) (Contains-append_left xs ys at (in_it at xs e))

pub any_back : (at : ℕ) (xs ys : List ℕ) → list_any (nat_eq at) ys ≡ true → list_any (nat_eq at) (xs ++ ys) ≡ true
any_back at xs ys e = is_in at (xs ++ ys) (Contains-append_right xs ys at (in_it at ys e))

module _ (w : List (List Bool)) (g : ℕ → ℕ) (f : Insn) (paired : Paired w g f) where
  pair_written : (x : Writes f) → x.wide ≡ true → g (x.to + 1) ≡ g x.to + 1
  pair_written x v = paired x.to (any_front x.to (wides_written f) (wides_read w f) (x.pair v))

  -- what is written has its new number written
  pub written_on : (r : ℕ) → writes_of f r ≡ true → writes_of (remade g g f) (g r) ≡ true
  written_on r e = elim (written f) [
    | inl x ↦ x.other g (g r) ∙ operand_on g x.wide x.to r (pair_written x) (sym (x.is r) ∙ e)
    | inr x ↦ absurd (true≢false (sym e ∙ x.none r))
  ]

  -- and what has a number that is written shares it with a register that is written
  pub written_back : (r : ℕ) → writes_of (remade g g f) (g r) ≡ true → (s : ℕ) × (writes_of f s ≡ true) × (g s ≡ g r)
  written_back r e = elim (written f) [
    | inl x ↦ (let u = operand_back g x.wide x.to r (pair_written x) (sym (x.other g (g r)) ∙ e) in (u.0, x.is u.0 ∙ u.1, u.2))
    | inr x ↦ absurd (true≢false (sym e ∙ x.never g (g r)))
  ]

-- ---- what is read

among : (args : List ℕ) (r : ℕ) → Contains args r → list_any (λ a. nat_eq a r) args ≡ true
among [] r c = absurd (none r c)
among (x ∷ xs) r c = elim (split x xs r c) [
  | inl e ↦ or_left (nat_eq x r) (list_any (λ a. nat_eq a r) xs) (eq-eqb x r e)
  | inr d ↦ or_right (nat_eq x r) (list_any (λ a. nat_eq a r) xs) (among xs r d)
]

one : (p : ℕ → Bool) (x r : ℕ) → p x ≡ true → Contains (x ∷ []) r → p r ≡ true
one p x r h c = elim (split x [] r c) [ inl e ↦ subst (λ z. p z ≡ true) e h | inr d ↦ absurd (none r d) ]

two : (p : ℕ → Bool) (x y r : ℕ) → p x ≡ true → p y ≡ true → Contains (x ∷ y ∷ []) r → p r ≡ true
two p x y r h i c = elim (split x (y ∷ []) r c) [ inl e ↦ subst (λ z. p z ≡ true) e h | inr d ↦ one p y r i d ]

three : (p : ℕ → Bool) (x y z r : ℕ) → p x ≡ true → p y ≡ true → p z ≡ true → Contains (x ∷ y ∷ z ∷ []) r → p r ≡ true
three p x y z r h i j c = elim (split x (y ∷ z ∷ []) r c) [ inl e ↦ subst (λ z. p z ≡ true) e h | inr d ↦ two p y z r i j d ]

same : (x : ℕ) → nat_eq x x ≡ true
same x = eq-eqb x x refl

-- an instruction reads its operands
pub operand_read : (f : Insn) (r : ℕ) → Contains (operands_of f) r → reads_of f r ≡ true
operand_read (insn.Move slot to from) r c = one (reads_of (insn.Move slot to from)) from r (first_in (is_wide_slot slot) from) c
operand_read (insn.Return slot from) r c = one (reads_of (insn.Return slot from)) from r (first_in (is_wide_slot slot) from) c
operand_read (insn.MonitorEnter on) r c = one (reads_of (insn.MonitorEnter on)) on r (same on) c
operand_read (insn.MonitorExit on) r c = one (reads_of (insn.MonitorExit on)) on r (same on) c
operand_read (insn.CheckCast on kind) r c = one (reads_of (insn.CheckCast on kind)) on r (same on) c
operand_read (insn.InstanceOf to from kind) r c = one (reads_of (insn.InstanceOf to from kind)) from r (same from) c
operand_read (insn.ArrayLength to from) r c = one (reads_of (insn.ArrayLength to from)) from r (same from) c
operand_read (insn.NewArray to size kind) r c = one (reads_of (insn.NewArray to size kind)) size r (same size) c
operand_read (insn.FilledNewArray kind args) r c = among args r c
operand_read (insn.FillArray on width items) r c = one (reads_of (insn.FillArray on width items)) on r (same on) c
operand_read (insn.Throw on) r c = one (reads_of (insn.Throw on)) on r (same on) c
operand_read (insn.PackedSwitch on key targets) r c = one (reads_of (insn.PackedSwitch on key targets)) on r (same on) c
operand_read (insn.SparseSwitch on keys targets) r c = one (reads_of (insn.SparseSwitch on keys targets)) on r (same on) c
operand_read (insn.Cmp op to a b) r c = two (reads_of (insn.Cmp op to a b)) a b r
    (or_left (in_operand (compares_wide op) a a) (in_operand (compares_wide op) b a) (first_in (compares_wide op) a))
    (or_right (in_operand (compares_wide op) a b) (in_operand (compares_wide op) b b) (first_in (compares_wide op) b)) c
operand_read (insn.If test a b target) r c = two (reads_of (insn.If test a b target)) a b r (or_left (nat_eq a a) (nat_eq a b) (same a)) (or_right (nat_eq b a) (nat_eq b b) (same b)) c
operand_read (insn.IfZero test a target) r c = one (reads_of (insn.IfZero test a target)) a r (same a) c
operand_read (insn.ArrayGet item to array index) r c = two (reads_of (insn.ArrayGet item to array index)) array index r
    (or_left (nat_eq array array) (nat_eq array index) (same array)) (or_right (nat_eq index array) (nat_eq index index) (same index)) c
operand_read (insn.ArrayPut item from array index) r c = three (reads_of (insn.ArrayPut item from array index)) from array index r
    (or_first (in_operand (is_wide_item item) from from) (nat_eq from array) (nat_eq from index) (first_in (is_wide_item item) from))
    (or_second (in_operand (is_wide_item item) from array) (nat_eq array array) (nat_eq array index) (same array))
    (or_third (in_operand (is_wide_item item) from index) (nat_eq index array) (nat_eq index index) (same index)) c
  where
    or_first : (x y z : Bool) → x ≡ true → (x || y || z) ≡ true
    or_first true y z e = refl
    or_first false y z e = absurd (true≢false (sym e))

    or_second : (x y z : Bool) → y ≡ true → (x || y || z) ≡ true
    or_second true y z e = refl
    or_second false true z e = refl
    or_second false false z e = absurd (true≢false (sym e))

    or_third : (x y z : Bool) → z ≡ true → (x || y || z) ≡ true
    or_third true y z e = refl
    or_third false true z e = refl
    or_third false false z e = e
operand_read (insn.InstanceGet item to on field) r c = one (reads_of (insn.InstanceGet item to on field)) on r (same on) c
operand_read (insn.InstancePut item from on field) r c = two (reads_of (insn.InstancePut item from on field)) from on r
    (or_left (in_operand (is_wide_item item) from from) (nat_eq from on) (first_in (is_wide_item item) from)) (or_right (in_operand (is_wide_item item) from on) (nat_eq on on) (same on)) c
operand_read (insn.StaticPut item from field) r c = one (reads_of (insn.StaticPut item from field)) from r (first_in (is_wide_item item) from) c
operand_read (insn.Invoke kind method args) r c = among args r c
operand_read (insn.Unary op to from) r c = one (reads_of (insn.Unary op to from)) from r (first_in (unary_reads_wide op) from) c
operand_read (insn.Binary op to a b) r c = two (reads_of (insn.Binary op to a b)) a b r
    (or_left (in_operand (binary_is_wide op) a a) (in_operand (second_is_wide op) b a) (first_in (binary_is_wide op) a))
    (or_right (in_operand (binary_is_wide op) a b) (in_operand (second_is_wide op) b b) (first_in (second_is_wide op) b)) c
operand_read (insn.Literal op to a value) r c = one (reads_of (insn.Literal op to a value)) a r (same a) c
operand_read insn.Nop r c = absurd (none r c)
operand_read f r c = absurd (none r c)
