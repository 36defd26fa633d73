-- What an instruction writes, as a list, and where one goes that writes.
use Rattle.std.proofs.Common.{◌≡◌, ◌↔◌, inl, inr, ℕ, ◌+◌, Bool, true, false, List, [], ◌∷◌, nat_eq, Contains, refl, sym, subst}
use Rattle.std.proofs.lemmas.Bool.{false≢true, or_cases, or_left, or_right, eqb-true, eq-eqb}
use Rattle.insn_set.specs.declared.form.Insn.{Insn}
use Rattle.insn_set.specs.declared.form.Insn.TheVariants.{Move, MoveResult, MoveException, Const, ConstWide, ConstString, ConstClass, InstanceOf, ArrayLength, NewInstance, NewArray, Cmp, ArrayGet, InstanceGet, StaticGet, Unary, Binary, Literal}
use Rattle.insn_set.specs.Widths.{is_wide_slot, is_wide_item, unary_writes_wide, binary_is_wide}
use Rattle.insn_set.specs.Registers.{in_operand, writes_of}
use Rattle.body_graph.specs.Walks.{onward}
use Rattle.body_graph.proofs.Members.{none, first, there, split}
use Rattle.live_regs.specs.Liveness.{operand}
use Rattle.compact.specs.Ties.{write_list}

-- a test tells which lists have the register
abbrev Tells : ℕ → List ℕ → Bool → Type 0
Tells r xs b = Contains xs r ↔ (b ≡ true)

one : (r at : ℕ) → Tells r (at ∷ []) (nat_eq r at)
one r at = (
  (λ c. elim (split at [] r c) [ inl e ↦ eq-eqb r at (sym e) | inr d ↦ absurd (none r d) ]),
  (λ h. subst (λ (k : ℕ). Contains (at ∷ []) k) (sym (eqb-true r at h)) (first at [])),
)

reg : (v : Bool) (r at : ℕ) → Tells r (operand v at) (in_operand v at r)
reg false r at = one r at
reg true r at = (
  (λ c. elim (split at ((at + 1) ∷ []) r c) [ inl e ↦ or_left (nat_eq r at) (nat_eq r (at + 1)) (eq-eqb r at (sym e)) | inr d ↦ or_right (nat_eq r at) (nat_eq r (at + 1)) ((one r (at + 1)).0 d) ]),
  (λ h. elim (or_cases (nat_eq r at) (nat_eq r (at + 1)) h) [ inl e ↦ subst (λ (k : ℕ). Contains (at ∷ (at + 1) ∷ []) k) (sym (eqb-true r at e)) (first at ((at + 1) ∷ [])) | inr e ↦ there at ((at + 1) ∷ []) r ((one r (at + 1)).1 e) ]),
)

pub write_tells : (r : ℕ) (f : Insn) → Contains (write_list f) r ↔ (writes_of f r ≡ true)
write_tells r (Move slot to from) = reg (is_wide_slot slot) r to
write_tells r (MoveResult slot to) = reg (is_wide_slot slot) r to
write_tells r (MoveException to) = one r to
write_tells r (Const to value) = one r to
write_tells r (ConstWide to value) = reg (true) r to
write_tells r (ConstString to string) = one r to
write_tells r (ConstClass to kind) = one r to
write_tells r (InstanceOf to from kind) = one r to
write_tells r (ArrayLength to from) = one r to
write_tells r (NewInstance to kind) = one r to
write_tells r (NewArray to size kind) = one r to
write_tells r (Cmp op to a b) = one r to
write_tells r (ArrayGet item to array index) = reg (is_wide_item item) r to
write_tells r (InstanceGet item to on field) = reg (is_wide_item item) r to
write_tells r (StaticGet item to field) = reg (is_wide_item item) r to
write_tells r (Unary op to from) = reg (unary_writes_wide op) r to
write_tells r (Binary op to a b) = reg (binary_is_wide op) r to
write_tells r (Literal op to a value) = one r to
write_tells r f = (λ c. absurd (none r c), λ h. absurd (false≢true h))

pub writer_goes : (f : Insn) (r n : ℕ) → writes_of f r ≡ true → onward f n ≡ (n + 1) ∷ []
writer_goes (Move slot to from) r n h = refl
writer_goes (MoveResult slot to) r n h = refl
writer_goes (MoveException to) r n h = refl
writer_goes (Const to value) r n h = refl
writer_goes (ConstWide to value) r n h = refl
writer_goes (ConstString to string) r n h = refl
writer_goes (ConstClass to kind) r n h = refl
writer_goes (InstanceOf to from kind) r n h = refl
writer_goes (ArrayLength to from) r n h = refl
writer_goes (NewInstance to kind) r n h = refl
writer_goes (NewArray to size kind) r n h = refl
writer_goes (Cmp op to a b) r n h = refl
writer_goes (ArrayGet item to array index) r n h = refl
writer_goes (InstanceGet item to on field) r n h = refl
writer_goes (StaticGet item to field) r n h = refl
writer_goes (Unary op to from) r n h = refl
writer_goes (Binary op to a b) r n h = refl
writer_goes (Literal op to a value) r n h = refl
writer_goes f r n h = absurd (false≢true h)
