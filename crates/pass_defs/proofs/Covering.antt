-- Facts hold of a state whose registers hold what they say.
use Rattle.std.proofs.Common.{◌≡◌, ℕ, zero, suc, Bool, true, false, true≢false, [], ◌∷◌, Option, Some, None, refl, sym, ap, ◌∙◌, subst, arith}
use Rattle.std.specs.Prelude.{if◌then◌else◌, slice_get}
use Rattle.dalvik_defs.specs.Names.{text_eq}
use Rattle.dalvik_defs.specs.Find.{field_in, defined_field}
use Rattle.dalvik_defs.specs.Face.{bodies_of}
use Rattle.dalvik_defs.specs.Examples.{a_type, to_int, m_key, with_m}
use Rattle.dalvik_defs.specs.State.{word_of}
use Rattle.dalvik_defs.specs.declared.state.Value.{Value}
use Rattle.dalvik_defs.specs.declared.state.Value.TheVariants.{Word}
use Rattle.dalvik_defs.specs.declared.names.FieldKey.{FieldKey}
use Rattle.dalvik_defs.specs.declared.forms.Form.{Form}
use Rattle.dalvik_defs.specs.declared.forms.Form.TheVariants as form
use Rattle.dalvik_defs.specs.declared.program.NamedBody.{NamedBody}
use Rattle.dalvik_defs.specs.declared.program.NamedField.{NamedField}
use Rattle.pass_defs.specs.Walks.{form_at}
use Rattle.pass_defs.specs.Flat.{KnownWord, Any}
use Rattle.pass_defs.specs.Constants.{flat}
use Rattle.pass_defs.specs.Covers.{Covers, CoversFrame}
use Rattle.pass_defs.specs.PassExamples.{adds, adds_three, knows_sum, first_two, frame_with, state_with, says}
use Rattle.pass_defs.proofs.Spins.{some_one, none_some}

-- the form there neither takes a result nor gives one
abbrev passes_result : Form → Bool
passes_result (form.MoveResult slot to) = true
passes_result (form.Return slot from) = true
passes_result f = false

no_result : (b : NamedBody) (f : Form) → bodies_of adds (m_key to_int) ≡ Some b → form_at b 1 ≡ Some f → passes_result f ≡ true → ⊥
no_result b f h e r =
    let there : form_at adds_three 1 ≡ Some f = subst (λ b. form_at b 1 ≡ Some f) (sym (some_one adds_three b h)) e in
    true≢false (sym r ∙ ap passes_result (sym (some_one _ f there)))

no_field : {B : Type 0} (k : FieldKey) (f : NamedField) → defined_field adds k ≡ Some f → B
no_field {B = B} k f = by (text_eq a_type k.class)
  where
    by : (x : Bool) → (elim (if x then Some (with_m to_int adds_three) else None) as (λ _. Option NamedField) [ Some c ↦ field_in c k.name k.kind | None ↦ None ]) ≡ Some f → B
    by true e = none_some f e
    by false e = none_some f e

holds_all : (r : ℕ) (v : Value) → slice_get (Word 2 ∷ Word 0 ∷ []) r ≡ Some v → says (first_two (KnownWord 2) Any r) v
holds_all zero v e = sym (some_one (Word 2) v e)
holds_all (suc zero) v e = tt
holds_all (suc (suc r)) v e = tt

pub covered : Covers flat says adds knows_sum (state_with 2)
covered = (
  (
    record { registers = first_two (KnownWord 2) Any; there = refl; hold = holds_all },
    (λ b slot to h e. absurd (no_result b (form.MoveResult slot to) h e refl), λ b slot from v h e g. absurd (no_result b (form.Return slot from) h e refl)),
    tt,
  ),
  record { statics = λ k f d s. no_field k f d; instances = λ k f c fs d s i u. no_field k f d },
)

three_isnt_two : Word 3 ≡ Word 2 → ⊥
three_isnt_two e = let n : 3 ≡ 2 = ap word_of e in omega (arith, n)

pub not_covered : Covers flat says adds knows_sum (state_with 3) → ⊥
not_covered h = by h.0.0
  where
    by : CoversFrame flat says adds knows_sum (frame_with 3) → ⊥
    by f = three_isnt_two (subst (λ a. says (a 0) (Word 3)) (sym (some_one (first_two (KnownWord 2) Any) f.registers f.there)) (f.hold 0 (Word 3) refl))
