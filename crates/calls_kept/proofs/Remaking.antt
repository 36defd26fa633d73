-- Forms with registers and targets that are the same one by one.
use Rattle.std.proofs.Common.{◌≡◌, ℕ, ◌+◌, ◌<◌, Bool, true, false, List, [], ◌∷◌, refl, sym, ap, ap₂, ◌∙◌, arith, ltb-true}
use Rattle.std.specs.Prelude.{◌&&◌, map, nat_lt, Contains}
use Rattle.std.proofs.lemmas.List.{map-id}
use Rattle.lemmas.proofs.Bools.{and_left, and_right}
use Rattle.lemmas.proofs.Lists.{contains_here, contains_there}
use Rattle.insn_set.specs.Flow.{targets_of}
use Rattle.insn_set.specs.Widths.{is_wide_slot, is_wide_item, compares_wide, unary_reads_wide, unary_writes_wide, binary_is_wide, second_is_wide}
use Rattle.insn_set.specs.declared.form.Insn.{Insn}
use Rattle.insn_set.specs.declared.form.Insn.TheVariants as insn
use Rattle.program_model.specs.OperandRules.{has_room, are_registers, registers_fit}
use Rattle.program_model.specs.declared.program.Program.{Program}
use Rattle.dalvik_defs.specs.Naming.{text_at, type_at, field_at, method_at, form_of}
use Rattle.dalvik_defs.specs.declared.forms.Form.{Form}
use Rattle.dalvik_defs.specs.declared.forms.Form.TheVariants as form
use Rattle.insn_regs.specs.Remade as numbered
use Rattle.pass_defs.specs.Remade.{remade, retargeted}
use Rattle.pass_defs.specs.Thinned.{insn_retargeted}
use Rattle.bodies_kept.proofs.Remaking.{remade_by_number}

-- ---- registers

module _ (n : ℕ) (r s : ℕ → ℕ) (agree : (k : ℕ) → k < n → r k ≡ s k) (p : Program) (t : ℕ → ℕ) where
  one : (x : ℕ) → nat_lt x n ≡ true → r x ≡ s x
  one x h = agree x (ltb-true x n h)

  room : (b : Bool) (x : ℕ) → has_room b x n ≡ true → r x ≡ s x
  room false x h = one x h
  room true x h = let l = ltb-true (x + 1) n h in agree x (omega (arith, l))

  pub many : (xs : List ℕ) → are_registers xs n ≡ true → map r xs ≡ map s xs
  many [] h = refl
  many (x ∷ xs) h = ap₂ (λ y ys. y ∷ ys) (one x (and_left (nat_lt x n) (are_registers xs n) h)) (many xs (and_right (nat_lt x n) (are_registers xs n) h))

  three : (f : ℕ → ℕ → ℕ → Form) (a b c : ℕ) → r a ≡ s a → r b ≡ s b → r c ≡ s c → f (r a) (r b) (r c) ≡ f (s a) (s b) (s c)
  three f a b c x y z = ap₂ (λ k l. f k l (r c)) x y ∙ ap (λ k. f (s a) (s b) k) z

  pub same_registers : (i : Insn) → registers_fit i n ≡ true → remade r r t (form_of p i) ≡ remade s s t (form_of p i)
  unfolding registers_fit
  same_registers insn.Nop h = refl
  same_registers insn.ReturnVoid h = refl
  same_registers (insn.Goto target) h = refl
  same_registers (insn.Move slot to from) h = ap₂ (λ a b. form.Move slot a b) (room (is_wide_slot slot) to (and_left (has_room (is_wide_slot slot) to n) (has_room (is_wide_slot slot) from n) h))
      (room (is_wide_slot slot) from (and_right (has_room (is_wide_slot slot) to n) (has_room (is_wide_slot slot) from n) h))
  same_registers (insn.MoveResult slot to) h = ap (λ a. form.MoveResult slot a) (room (is_wide_slot slot) to h)
  same_registers (insn.MoveException to) h = ap form.MoveException (one to h)
  same_registers (insn.Return slot from) h = ap (λ a. form.Return slot a) (room (is_wide_slot slot) from h)
  same_registers (insn.Const to value) h = ap (λ a. form.Const a value) (one to h)
  same_registers (insn.ConstWide to value) h = ap (λ a. form.ConstWide a value) (room true to h)
  same_registers (insn.ConstString to string) h = ap (λ a. form.ConstString a (text_at p string)) (one to h)
  same_registers (insn.ConstClass to kind) h = ap (λ a. form.ConstClass a (type_at p kind)) (one to h)
  same_registers (insn.MonitorEnter on) h = ap form.MonitorEnter (one on h)
  same_registers (insn.MonitorExit on) h = ap form.MonitorExit (one on h)
  same_registers (insn.CheckCast on kind) h = ap (λ a. form.CheckCast a (type_at p kind)) (one on h)
  same_registers (insn.InstanceOf to from kind) h = ap₂ (λ a b. form.InstanceOf a b (type_at p kind)) (one to (and_left (nat_lt to n) (nat_lt from n) h)) (one from (and_right (nat_lt to n) (nat_lt from n) h))
  same_registers (insn.ArrayLength to from) h = ap₂ form.ArrayLength (one to (and_left (nat_lt to n) (nat_lt from n) h)) (one from (and_right (nat_lt to n) (nat_lt from n) h))
  same_registers (insn.NewInstance to kind) h = ap (λ a. form.NewInstance a (type_at p kind)) (one to h)
  same_registers (insn.NewArray to size kind) h = ap₂ (λ a b. form.NewArray a b (type_at p kind)) (one to (and_left (nat_lt to n) (nat_lt size n) h)) (one size (and_right (nat_lt to n) (nat_lt size n) h))
  same_registers (insn.FilledNewArray kind args) h = ap (λ l. form.FilledNewArray (type_at p kind) l) (many args h)
  same_registers (insn.FillArray on width items) h = ap (λ a. form.FillArray a width items) (one on h)
  same_registers (insn.Throw on) h = ap form.Throw (one on h)
  same_registers (insn.PackedSwitch on first targets) h = ap (λ a. form.PackedSwitch a first (map t targets)) (one on h)
  same_registers (insn.SparseSwitch on keys targets) h = ap (λ a. form.SparseSwitch a keys (map t targets)) (one on h)
  same_registers (insn.Cmp op to a b) h =
      let q = and_right (nat_lt to n) (has_room (compares_wide op) a n && has_room (compares_wide op) b n) h in
      three (form.Cmp op) to a b (one to (and_left (nat_lt to n) (has_room (compares_wide op) a n && has_room (compares_wide op) b n) h))
      (room (compares_wide op) a (and_left (has_room (compares_wide op) a n) (has_room (compares_wide op) b n) q)) (room (compares_wide op) b (and_right (has_room (compares_wide op) a n) (has_room (compares_wide op) b n) q))
  same_registers (insn.If test a b target) h = ap₂ (λ x y. form.If test x y (t target)) (one a (and_left (nat_lt a n) (nat_lt b n) h)) (one b (and_right (nat_lt a n) (nat_lt b n) h))
  same_registers (insn.IfZero test a target) h = ap (λ x. form.IfZero test x (t target)) (one a h)
  same_registers (insn.ArrayGet item to array index) h =
      let q = and_right (has_room (is_wide_item item) to n) (nat_lt array n && nat_lt index n) h in
      three (form.ArrayGet item) to array index (room (is_wide_item item) to (and_left (has_room (is_wide_item item) to n) (nat_lt array n && nat_lt index n) h))
      (one array (and_left (nat_lt array n) (nat_lt index n) q)) (one index (and_right (nat_lt array n) (nat_lt index n) q))
  same_registers (insn.ArrayPut item from array index) h =
      let q = and_right (has_room (is_wide_item item) from n) (nat_lt array n && nat_lt index n) h in
      three (form.ArrayPut item) from array index (room (is_wide_item item) from (and_left (has_room (is_wide_item item) from n) (nat_lt array n && nat_lt index n) h))
      (one array (and_left (nat_lt array n) (nat_lt index n) q)) (one index (and_right (nat_lt array n) (nat_lt index n) q))
  same_registers (insn.InstanceGet item to on field) h = ap₂ (λ a b. form.InstanceGet item a b (field_at p field)) (room (is_wide_item item) to (and_left (has_room (is_wide_item item) to n) (nat_lt on n) h))
      (one on (and_right (has_room (is_wide_item item) to n) (nat_lt on n) h))
  same_registers (insn.InstancePut item from on field) h = ap₂ (λ a b. form.InstancePut item a b (field_at p field)) (room (is_wide_item item) from (and_left (has_room (is_wide_item item) from n) (nat_lt on n) h))
      (one on (and_right (has_room (is_wide_item item) from n) (nat_lt on n) h))
  same_registers (insn.StaticGet item to field) h = ap (λ a. form.StaticGet item a (field_at p field)) (room (is_wide_item item) to h)
  same_registers (insn.StaticPut item from field) h = ap (λ a. form.StaticPut item a (field_at p field)) (room (is_wide_item item) from h)
  same_registers (insn.Invoke kind method args) h = ap (λ l. form.Invoke kind (method_at p method) l) (many args h)
  same_registers (insn.Unary op to from) h = ap₂ (form.Unary op) (room (unary_writes_wide op) to (and_left (has_room (unary_writes_wide op) to n) (has_room (unary_reads_wide op) from n) h))
      (room (unary_reads_wide op) from (and_right (has_room (unary_writes_wide op) to n) (has_room (unary_reads_wide op) from n) h))
  same_registers (insn.Binary op to a b) h =
      let q = and_right (has_room (binary_is_wide op) to n) (has_room (binary_is_wide op) a n && has_room (second_is_wide op) b n) h in
      three (form.Binary op) to a b (room (binary_is_wide op) to (and_left (has_room (binary_is_wide op) to n) (has_room (binary_is_wide op) a n && has_room (second_is_wide op) b n) h))
      (room (binary_is_wide op) a (and_left (has_room (binary_is_wide op) a n) (has_room (second_is_wide op) b n) q)) (room (second_is_wide op) b (and_right (has_room (binary_is_wide op) a n) (has_room (second_is_wide op) b n) q))
  same_registers (insn.Literal op to a value) h = ap₂ (λ x y. form.Literal op x y value) (one to (and_left (nat_lt to n) (nat_lt a n) h)) (one a (and_right (nat_lt to n) (nat_lt a n) h))

-- ---- targets

module _ (t u : ℕ → ℕ) where
  all_targets : (xs : List ℕ) → ((k : ℕ) → Contains xs k → t k ≡ u k) → map t xs ≡ map u xs
  all_targets [] h = refl
  all_targets (x ∷ xs) h = ap₂ (λ y ys. y ∷ ys) (h x (contains_here x xs)) (all_targets xs (λ k i. h k (contains_there x xs k i)))

  module _ (p : Program) (r : ℕ → ℕ) where
    pub same_targets : (i : Insn) → ((k : ℕ) → Contains (targets_of i) k → t k ≡ u k) → remade r r t (form_of p i) ≡ remade r r u (form_of p i)
    same_targets (insn.Goto target) h = ap form.Goto (h target (contains_here target []))
    same_targets (insn.PackedSwitch on first targets) h = ap (form.PackedSwitch (r on) first) (all_targets targets h)
    same_targets (insn.SparseSwitch on keys targets) h = ap (form.SparseSwitch (r on) keys) (all_targets targets h)
    same_targets (insn.If test a b target) h = ap (form.If test (r a) (r b)) (h target (contains_here target []))
    same_targets (insn.IfZero test a target) h = ap (form.IfZero test (r a)) (h target (contains_here target []))
    same_targets i h = refl

-- ---- by number

module _ (p : Program) (t : ℕ → ℕ) where
  pub retargeted_by_number : (i : Insn) → form_of p (insn_retargeted t i) ≡ retargeted t (form_of p i)
  retargeted_by_number (insn.FilledNewArray kind args) = ap (λ l. form.FilledNewArray (type_at p kind) l) (sym (map-id args))
  retargeted_by_number (insn.Invoke kind method args) = ap (λ l. form.Invoke kind (method_at p method) l) (sym (map-id args))
  retargeted_by_number i = refl

  module _ (r : ℕ → ℕ) where
    twice : (xs : List ℕ) → map (λ k. k) (map (λ k. k) (map r xs)) ≡ map r xs
    twice xs = map-id (map (λ k. k) (map r xs)) ∙ map-id (map r xs)

    aims : (xs : List ℕ) → map t (map (λ k. k) (map (λ k. k) xs)) ≡ map t xs
    aims xs = ap (map t) (map-id (map (λ k. k) xs) ∙ map-id xs)

    all_at_once : (f : Form) → retargeted t (remade (λ k. k) r (λ k. k) (remade r (λ k. k) (λ k. k) f)) ≡ remade r r t f
    all_at_once (form.FilledNewArray kind args) = ap (form.FilledNewArray kind) (twice args)
    all_at_once (form.Invoke kind method args) = ap (form.Invoke kind method) (twice args)
    all_at_once (form.PackedSwitch on first targets) = ap (form.PackedSwitch (r on) first) (aims targets)
    all_at_once (form.SparseSwitch on keys targets) = ap (form.SparseSwitch (r on) keys) (aims targets)
    all_at_once f = refl

    -- registers that are read and that are written, and targets
    pub remade_all : (i : Insn) → form_of p (insn_retargeted t (numbered.remade (λ k. k) r (numbered.remade r (λ k. k) i))) ≡ remade r r t (form_of p i)
    remade_all i = retargeted_by_number (numbered.remade (λ k. k) r (numbered.remade r (λ k. k) i))
        ∙ ap (retargeted t) (remade_by_number p (λ k. k) r (numbered.remade r (λ k. k) i) ∙ ap (remade (λ k. k) r (λ k. k)) (remade_by_number p r (λ k. k) i))
        ∙ all_at_once (form_of p i)
