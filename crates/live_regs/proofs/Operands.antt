-- The registers that forms read, and the positions that read them.
use Rattle.std.proofs.Common.{◌≡◌, ◌↔◌, inl, inr, ℕ, ◌+◌, ◌<◌, Bool, true, false, ◌||◌, List, [], ◌∷◌, ◌++◌, length, Option, Some, None, slice_get, nat_eq, Contains, sym, ap, ◌∙◌, subst, arith}
use Rattle.std.specs.List.{list_any}
use Rattle.std.proofs.lemmas.Bool.{false≢true, or_cases, or_left, or_right, cases_lt, eqb-true, eq-eqb}
use Rattle.std.proofs.lemmas.List.{append-nil, get_or_past}
use Rattle.std.proofs.lemmas.List.Elements.{Contains-append_left, Contains-append_right, Contains-append_cases}
use Rattle.insn_set.specs.declared.form.Insn.{Insn}
use Rattle.insn_set.specs.declared.form.Insn.TheVariants as insn
use Rattle.insn_set.specs.Widths.{is_wide_slot, is_wide_item, compares_wide, unary_reads_wide, binary_is_wide, second_is_wide}
use Rattle.insn_set.specs.Registers.{in_operand, reads_of}
use Rattle.program_model.specs.declared.body.Body.{Body}
use Rattle.walk_marks.specs.Walks.{AreTurned, row_of}
use Rattle.body_graph.specs.Walks.{insn_at}
use Rattle.body_graph.proofs.Members.{none, first, there, split, get_past}
use Rattle.live_regs.specs.Liveness.{operand, read_list, read_list_at, reads_at, AreReaders}

-- a test tells which lists have the register
abbrev Tells : ℕ → List ℕ → Bool → Type 0
Tells r xs b = Contains xs r ↔ (b ≡ true)

no_one : (r : ℕ) → Tells r [] false
no_one r = (λ c. absurd (none r c), λ h. absurd (false≢true h))

either : (r : ℕ) (xs ys : List ℕ) (a b : Bool) → Tells r xs a → Tells r ys b → Tells r (xs ++ ys) (a || b)
either r xs ys a b s t = (
  (λ c. elim (Contains-append_cases xs ys r c) [ inl d ↦ or_left a b (s.0 d) | inr d ↦ or_right a b (t.0 d) ]),
  (λ h. elim (or_cases a b h) [ inl d ↦ Contains-append_left xs ys r (s.1 d) | inr d ↦ Contains-append_right xs ys r (t.1 d) ]),
)

alone : (r : ℕ) (xs : List ℕ) (a : Bool) → Tells r xs a → Tells r (xs ++ []) a
alone r xs a s = subst (λ (l : List ℕ). Tells r l a) (sym (append-nil xs)) s

one : (r at : ℕ) → Tells r (at ∷ []) (nat_eq r at)
one r at = (
  (λ c. elim (split at [] r c) [ inl e ↦ eq-eqb r at (sym e) | inr d ↦ absurd (none r d) ]),
  (λ h. subst (λ (k : ℕ). Contains (at ∷ []) k) (sym (eqb-true r at h)) (first at [])),
)

reg : (w : Bool) (r at : ℕ) → Tells r (operand w at) (in_operand w at r)
reg false r at = one r at
reg true r at = either r (at ∷ []) ((at + 1) ∷ []) (nat_eq r at) (nat_eq r (at + 1)) (one r at) (one r (at + 1))

all : (r : ℕ) (xs : List ℕ) → Tells r xs (list_any (λ a. nat_eq a r) xs)
all r [] = no_one r
all r (x ∷ xs) = (
  (λ c. elim (split x xs r c) [ inl e ↦ or_left (nat_eq x r) (list_any (λ a. nat_eq a r) xs) (eq-eqb x r e) | inr d ↦ or_right (nat_eq x r) (list_any (λ a. nat_eq a r) xs) ((all r xs).0 d) ]),
  (λ h. elim (or_cases (nat_eq x r) (list_any (λ a. nat_eq a r) xs) h) [ inl e ↦ subst (λ (k : ℕ). Contains (x ∷ xs) k) (eqb-true x r e) (first x xs) | inr d ↦ there x xs r ((all r xs).1 d) ]),
)

pub list_tells : (r : ℕ) (i : Insn) → Tells r (read_list i) (reads_of i r)
list_tells r (insn.Move slot to from) = alone r _ _ (reg (is_wide_slot slot) r from)
list_tells r (insn.Return slot from) = alone r _ _ (reg (is_wide_slot slot) r from)
list_tells r (insn.MonitorEnter on) = one r on
list_tells r (insn.MonitorExit on) = one r on
list_tells r (insn.CheckCast on kind) = one r on
list_tells r (insn.InstanceOf to from kind) = one r from
list_tells r (insn.ArrayLength to from) = one r from
list_tells r (insn.NewArray to size kind) = one r size
list_tells r (insn.FilledNewArray kind args) = alone r _ _ (all r args)
list_tells r (insn.FillArray on width items) = one r on
list_tells r (insn.Throw on) = one r on
list_tells r (insn.PackedSwitch on first targets) = one r on
list_tells r (insn.SparseSwitch on keys targets) = one r on
list_tells r (insn.Cmp op to a b) = either r _ _ _ _ (reg (compares_wide op) r a) (reg (compares_wide op) r b)
list_tells r (insn.If test a b target) = either r (a ∷ []) (b ∷ []) (nat_eq r a) (nat_eq r b) (one r a) (one r b)
list_tells r (insn.IfZero test a target) = one r a
list_tells r (insn.ArrayGet item to array index) = either r (array ∷ []) (index ∷ []) (nat_eq r array) (nat_eq r index) (one r array) (one r index)
list_tells r (insn.ArrayPut item from array index) = either r _ _ _ _ (either r _ _ _ _ (reg (is_wide_item item) r from) (one r array)) (one r index)
list_tells r (insn.InstanceGet item to on field) = one r on
list_tells r (insn.InstancePut item from on field) = either r _ _ _ _ (reg (is_wide_item item) r from) (one r on)
list_tells r (insn.StaticPut item from field) = alone r _ _ (reg (is_wide_item item) r from)
list_tells r (insn.Invoke kind method args) = alone r _ _ (all r args)
list_tells r (insn.Unary op to from) = alone r _ _ (reg (unary_reads_wide op) r from)
list_tells r (insn.Binary op to a b) = either r _ _ _ _ (reg (binary_is_wide op) r a) (reg (second_is_wide op) r b)
list_tells r (insn.Literal op to a value) = one r a
list_tells r i = no_one r

tells_at : (r : ℕ) (o : Option Insn) → Tells r (read_list_at o) (reads_at r o)
tells_at r None = no_one r
tells_at r (Some i) = list_tells r i

pub readers_are : (b : Body) (rows readers : List (List ℕ)) → length rows ≡ length b.insns → ((n : ℕ) → n < length b.insns → row_of rows n ≡ read_list_at (slice_get b.insns n)) → AreTurned rows b.registers readers → AreReaders b readers
readers_are b rows readers long is turned r lt n = (
  (λ c. (tells_at r (insn_at b n)).0 (subst (λ (l : List ℕ). Contains l r) (row n) ((turned n r lt).0 c))),
  (λ h. (turned n r lt).1 (subst (λ (l : List ℕ). Contains l r) (sym (row n)) ((tells_at r (insn_at b n)).1 h))),
)
  where
    row : (n : ℕ) → row_of rows n ≡ read_list_at (slice_get b.insns n)
    row n = elim (cases_lt n (length b.insns)) [
      | inl inside ↦ is n inside
      | inr past ↦ get_or_past rows n [] (omega (arith, past, long)) ∙ sym (ap read_list_at (get_past b.insns n past))
    ]
