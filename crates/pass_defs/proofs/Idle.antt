-- The constant of `sets_and_returns` is idle.
use Rattle.std.proofs.Common.{◌≡◌, ℕ, zero, suc, refl, sym, subst, arith}
use Rattle.std.specs.Prelude.{Contains, [], ◌∷◌, pos}
use Rattle.dalvik_defs.specs.Names.{void}
use Rattle.dalvik_defs.specs.Examples.{m_key, keeps_m, code}
use Rattle.dalvik_defs.specs.declared.forms.Form.TheVariants as form
use Rattle.dalvik_defs.specs.declared.program.NamedBody.{NamedBody}
use Rattle.pass_defs.specs.Walks.{IsReadAt, IsReadAfter}
use Rattle.pass_defs.specs.Constants.{Itself}
use Rattle.pass_defs.specs.Idle.{IsIdle, Unread}
use Rattle.pass_defs.specs.Examples.{sets_and_returns}
use Rattle.pass_defs.proofs.Unread.{end_reads}

abbrev the_body : NamedBody
the_body = code 1 0 (form.Const 0 (pos 5) ∷ form.ReturnVoid ∷ [])

only_one : (m : ℕ) → Contains (1 ∷ []) m → 1 ≡ m
only_one m (zero, low, e) = e
only_one m (suc k, low, e) = let f : ⊥ = omega (arith, low) in absurd f

unread : (r : ℕ) → IsReadAfter the_body r 0 → ⊥
unread r (m, goes, read) = end_reads the_body r 1 read.0 refl (subst (λ v. IsReadAt the_body r v read.0) (sym (only_one m goes)) read.1)

pub constant_is_idle : IsIdle sets_and_returns (keeps_m void) (m_key void) 0
constant_is_idle = record {
  body = the_body;
  form = form.Const 0 (pos 5);
  has_body = refl;
  has_form = refl;
  idle = Unread (form.Const 0 (pos 5)) (record { pure = Itself refl; register = 0; writes_it = refl; unread = λ r w h. unread r h });
}
