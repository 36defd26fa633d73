-- A method that only adds is plainly quiet, so a call of it can be dropped.
use Rattle.std.proofs.Common.{◌≡◌, ℕ, zero, suc, ◌≤◌, true, [], ◌∷◌, Some, refl, sym, subst, arith}
use Rattle.std.specs.Prelude.{pos, Contains}
use Rattle.insn_set.specs.declared.ops.Slot.TheVariants as slot
use Rattle.insn_set.specs.declared.ops.LiteralOp.TheVariants as literal
use Rattle.insn_set.specs.declared.ops.InvokeKind.TheVariants as call
use Rattle.dalvik_defs.specs.Names.{void}
use Rattle.dalvik_defs.specs.Outer.{Outer}
use Rattle.dalvik_defs.specs.Examples.{m_key, keeps_m, code}
use Rattle.dalvik_defs.specs.declared.names.MethodKey.{MethodKey}
use Rattle.dalvik_defs.specs.declared.forms.Form.{Form}
use Rattle.dalvik_defs.specs.declared.forms.Form.TheVariants as form
use Rattle.dalvik_defs.specs.declared.program.NamedBody.{NamedBody}
use Rattle.pass_defs.specs.Walks.{Walk, Stays, Goes, form_at}
use Rattle.pass_defs.specs.Facts.{At}
use Rattle.pass_defs.specs.Constants.{flat, anything, Itself}
use Rattle.pass_defs.specs.Quiet as quiet
use Rattle.pass_defs.specs.Quiet.{IsQuietBody, IsQuietForm, IsPlainlyQuiet, IsDroppable, edges_at}
use Rattle.pass_defs.specs.Examples.{adds_two}
use Rattle.pass_defs.specs.PassExamples.{drops_q, ignores_q, q_key}
use Rattle.pass_defs.proofs.Anything.{anything_closed}
use Rattle.pass_defs.proofs.Spins.{some_one, none_some}
use Rattle.pass_defs.proofs.Sums.{none_in, only_in}

abbrev o : Outer
o = keeps_m void

abbrev its_body : NamedBody
its_body = code 2 1 (form.Literal literal.AddInt 0 1 (pos 2) ∷ form.Return slot.Word 0 ∷ [])

next_only : (n m : ℕ) → Contains (edges_at its_body anything q_key n) m → suc n ≡ m
next_only zero m i = only_in m 1 i
next_only (suc zero) m i = none_in m i
next_only (suc (suc n)) m i = none_in m i

climbs : (n m : ℕ) → Walk (edges_at its_body anything q_key) n m → n ≤ m
climbs n m (Stays _) = omega arith
climbs n m (Goes _ k _ i w) = let one = next_only n k i in let more = climbs k m w in omega (arith, one, more)

acyclic : (n m : ℕ) → Contains (edges_at its_body anything q_key n) m → Walk (edges_at its_body anything q_key) m n → ⊥
acyclic n m i w = let one = next_only n m i in let more = climbs m n w in omega (arith, one, more)

module _ (set : MethodKey → Type 0) where
  forms : (n : ℕ) (f : Form) → form_at its_body n ≡ Some f → IsQuietForm drops_q o set q_key n f
  forms zero f h = subst (λ f. IsQuietForm drops_q o set q_key 0 f) (some_one _ f h) (quiet.Pure _ (Itself refl))
  forms (suc zero) f h = subst (λ f. IsQuietForm drops_q o set q_key 1 f) (some_one _ f h) (quiet.Return _ refl)
  forms (suc (suc n)) f h = none_some f h

  at_each : (n : ℕ) (at : At flat drops_q anything q_key n) → IsQuietForm drops_q o set q_key n at.form
  at_each n at = forms n at.form (subst (λ b. form_at b n ≡ Some at.form) (sym (some_one its_body at.body at.has_body)) at.has_form)

  quiet_body : IsQuietBody drops_q o set q_key
  quiet_body = record {
    method = adds_two;
    body = its_body;
    defined = refl;
    static = refl;
    coded = refl;
    table = anything;
    closed = anything_closed drops_q o;
    acyclic = acyclic;
    forms = at_each;
  }

pub adding_is_quiet : IsPlainlyQuiet drops_q o q_key
adding_is_quiet s family = family q_key (quiet_body (λ g. s g ≡ true))

pub call_is_droppable : IsDroppable drops_q o (m_key void) 1
call_is_droppable = record {
  body = ignores_q;
  form = form.Invoke call.Static q_key (0 ∷ []);
  has_body = refl;
  has_form = refl;
  reached = Goes 0 1 1 (0, omega arith, refl) (Stays 1);
  unused = refl;
  calls = record { key = q_key; args = 0 ∷ []; found = record { key = q_key; flags = 9; coded = true }; form = refl; finds = refl; trivial = refl; is_quiet = adding_is_quiet };
}
