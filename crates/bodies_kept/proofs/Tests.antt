-- What a body uses and binds, by number and by name.
use Rattle.std.proofs.Common.{◌≡◌, ℕ, Bool, true, List, [], ◌∷◌, ◌++◌, map, refl, ap, ap₂}
use Rattle.std.specs.Prelude.{◌||◌, not}
use Rattle.std.specs.List.{list_any}
use Rattle.insn_set.specs.Registers.{in_operand}
use Rattle.insn_set.specs.Widths.{is_wide_slot, is_wide_item, unary_writes_wide, binary_is_wide}
use Rattle.insn_set.specs.declared.form.Insn.{Insn}
use Rattle.insn_set.specs.declared.form.Insn.TheVariants as insn
use Rattle.program_model.specs.declared.body.Body.{Body}
use Rattle.program_model.specs.declared.program.Program.{Program}
use Rattle.dalvik_defs.specs.Naming.{form_of, body_of}
use Rattle.insn_regs.specs.Wides.{widths_of}
use Rattle.compact.specs.Packed as numbered
use Rattle.pass_defs.specs.Packed as named
use Rattle.removal_bridge.proofs.WalkedForms.{same_reads, same_writes}
use Rattle.bodies_kept.proofs.Widths.{first_same, wides_by_number}

pub any_same : {A B : Type 0} (f : A → B) (s : B → Bool) (t : A → Bool) → ((x : A) → s (f x) ≡ t x) → (xs : List A) → list_any s (map f xs) ≡ list_any t xs
any_same f s t h [] = refl
any_same f s t h (x ∷ xs) = ap₂ (λ y z. y || z) (h x) (any_same f s t h xs)

written_same : (p : Program) (i : Insn) → named.wides_written (form_of p i) ≡ numbered.wides_written i
written_same p (insn.Move slot to from) = first_same (is_wide_slot slot) to
written_same p (insn.MoveResult slot to) = first_same (is_wide_slot slot) to
written_same p (insn.ConstWide to value) = refl
written_same p (insn.ArrayGet item to array index) = first_same (is_wide_item item) to
written_same p (insn.InstanceGet item to on field) = first_same (is_wide_item item) to
written_same p (insn.StaticGet item to field) = first_same (is_wide_item item) to
written_same p (insn.Unary op to from) = first_same (unary_writes_wide op) to
written_same p (insn.Binary op to a b) = first_same (binary_is_wide op) to
written_same p insn.Nop = refl
written_same p i = refl

pub wides_same : (p : Program) (i : Insn) → named.wides_of (form_of p i) ≡ numbered.wides_of (widths_of p) i
wides_same p i = ap₂ (λ xs ys. xs ++ ys) (written_same p i) (wides_by_number p i)

pub uses_same : (p : Program) (r : ℕ) (i : Insn) → named.uses (form_of p i) r ≡ numbered.uses i r
uses_same p r i = ap₂ (λ x y. x || y) (same_reads p i r) (same_writes p i r)

range_same : (p : Program) (r : ℕ) (i : Insn) → named.in_range_call (form_of p i) r ≡ numbered.in_range_call i r
range_same p r insn.Nop = refl
range_same p r i = refl

binds_same : (p : Program) (r : ℕ) (i : Insn) → named.binds (form_of p i) r ≡ numbered.binds (widths_of p) i r
binds_same p r i = ap₂ (λ x y. x || y) (ap (λ ws. list_any (λ at. in_operand true at r) ws) (wides_same p i)) (range_same p r i)

pub used_same : (p : Program) (b : Body) (r : ℕ) → named.is_used (body_of p b) r ≡ numbered.is_used b r
used_same p b r = any_same (form_of p) (λ f. named.uses f r) (λ i. numbered.uses i r) (uses_same p r) b.insns

pub free_same : (p : Program) (b : Body) (r : ℕ) → named.is_free (body_of p b) r ≡ numbered.is_free (widths_of p) b r
free_same p b r = ap not (any_same (form_of p) (λ f. named.binds f r) (λ i. numbered.binds (widths_of p) i r) (binds_same p r) b.insns)
