-- The wide result of a method that never comes back isn't foldable.
use Rattle.std.proofs.Common.{◌≡◌, ℕ, ℤ, ◌≤◌, Bool, true, false, true≢false, Some, None, sym, ap, ◌∙◌, subst, arith}
use Rattle.std.specs.Prelude.{if◌then◌else◌, slice_get}
use Rattle.std.specs.Int.{w64, cast_signed}
use Rattle.insn_set.specs.declared.ops.Slot.TheVariants as slot
use Rattle.insn_set.specs.Formats.{format_units}
use Rattle.insn_set.specs.declared.format.Format.TheVariants.{F21s, F21h, F31i, F51l}
use Rattle.insn_set.specs.Spelling.{fits_short, is_multiple, fits_int}
use Rattle.dalvik_defs.specs.Names.{void}
use Rattle.dalvik_defs.specs.Examples.{a_type, m_key, keeps_m}
use Rattle.dalvik_defs.specs.declared.forms.Form.{Form}
use Rattle.dalvik_defs.specs.declared.forms.Form.TheVariants as form
use Rattle.pass_defs.specs.Bare.{writes}
use Rattle.pass_defs.specs.Flat.{Flat, Bottom, KnownWord, KnownWide, Any}
use Rattle.pass_defs.specs.Facts.{after, call_result, form_before}
use Rattle.pass_defs.specs.Constants.{flat}
use Rattle.pass_defs.specs.Foldable.{IsFoldable, Folds, ToNumber, ToOutcome, FoldsToNumber, constant_of, units}
use Rattle.pass_defs.specs.PassExamples.{spins, takes_spin}

pub some_one : {A : Type 0} (x y : A) → Some x ≡ Some y → x ≡ y
some_one x y e = ap (λ o. elim o [ Some z ↦ z | None ↦ x ]) e

pub none_some : {A B : Type 0} (x : A) → None ≡ Some x → B
none_some x e = absurd (true≢false (ap (λ o. elim o as (λ o. Bool) [ Some z ↦ false | None ↦ true ]) e))

two_or_more : (x y z : Bool) → format_units (if x then F21s else if y then F21h else if z then F31i else F51l) ≤ 1 → ⊥
two_or_more true y z l = omega (arith, l)
two_or_more false true z l = omega (arith, l)
two_or_more false false true l = omega (arith, l)
two_or_more false false false l = omega (arith, l)

-- no constant that writes two registers is as short as the taking of a result
no_constant : (v : Flat) (c : Form) → constant_of 0 v ≡ Some c → ((r : ℕ) → writes c r ≡ writes (form.MoveResult slot.Wide 0) r) → units c ≤ 1 → ⊥
no_constant Bottom c e s l = none_some c e
no_constant Any c e s l = none_some c e
no_constant (KnownWord n) c e s l = true≢false (sym (s 1) ∙ ap (λ f. writes f 1) (sym (some_one _ c e)))
no_constant (KnownWide n) c e s l =
    let z : ℤ = cast_signed w64 n in
    two_or_more (fits_short z) (is_multiple z 281474976710656) (fits_int z) (subst (λ f. units f ≤ 1) (sym (some_one _ c e)) l)

not_to_number : FoldsToNumber spins (keeps_m void) (m_key void) takes_spin 1 (form.MoveResult slot.Wide 0) → ⊥
not_to_number x =
    let here : constant_of 0 (after flat spins x.table a_type (form_before takes_spin 1) (form.MoveResult slot.Wide 0) x.registers 0) ≡ Some x.constant
    = subst (λ t. constant_of t (after flat spins x.table a_type (form_before takes_spin 1) (form.MoveResult slot.Wide 0) x.registers t) ≡ Some x.constant) (sym (some_one 0 x.to x.result)) x.known in
    no_constant (call_result flat spins x.table a_type (form_before takes_spin 1)) x.constant here x.same x.short

folds : Folds spins (keeps_m void) (m_key void) takes_spin 1 (form.MoveResult slot.Wide 0) → ⊥
folds (ToNumber x) = not_to_number x
folds (ToOutcome x) = true≢false (sym x.chooses)

pub not_foldable : IsFoldable spins (keeps_m void) (m_key void) 1 → ⊥
not_foldable h =
    let body : takes_spin ≡ h.body = some_one takes_spin h.body h.has_body in
    let there : form.MoveResult slot.Wide 0 ≡ h.form = some_one (form.MoveResult slot.Wide 0) h.form (subst (λ b. slice_get b.forms 1 ≡ Some h.form) (sym body) h.has_form) in
    folds (subst (λ f. Folds spins (keeps_m void) (m_key void) takes_spin 1 f) (sym there) (subst (λ b. Folds spins (keeps_m void) (m_key void) b 1 h.form) (sym body) h.folds))
