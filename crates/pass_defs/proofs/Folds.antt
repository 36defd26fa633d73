-- The addition of two known numbers may become a constant.
use Rattle.std.proofs.Common.{◌≡◌, ℕ, zero, suc, true, [], ◌∷◌, Some, refl, subst, arith}
use Rattle.std.specs.Prelude.{pos}
use Rattle.insn_set.specs.declared.ops.LiteralOp.TheVariants as literal
use Rattle.dalvik_defs.specs.Examples.{to_int, with_m}
use Rattle.dalvik_defs.specs.declared.forms.Form.{Form}
use Rattle.dalvik_defs.specs.declared.forms.Form.TheVariants as form
use Rattle.dalvik_defs.specs.declared.program.NamedClass.{NamedClass}
use Rattle.pass_defs.specs.Walks.{form_at}
use Rattle.pass_defs.specs.Kinds.{Undefined, Word, is_below}
use Rattle.pass_defs.specs.Registers.{kind_at}
use Rattle.pass_defs.specs.Typed.{after}
use Rattle.pass_defs.specs.Folded.{IsFolded, MayBecome, IsConstantFor, Itself, Constant}
use Rattle.pass_defs.specs.Examples.{kinds}
use Rattle.pass_defs.specs.PassExamples.{adds, adds_three, knows_five, five_given, sum_typed}
use Rattle.pass_defs.proofs.Spins.{some_one, none_some}

abbrev c : NamedClass
c = with_m to_int adds_three

abbrev goes : ℕ → ℕ → Type 0
goes n q = ⊥

abbrev Becomes : ℕ → Form → Form → Type 0
Becomes = MayBecome adds c sum_typed five_given goes

stands : IsConstantFor adds c sum_typed 1 (form.Literal literal.AddInt 1 0 (pos 3)) (form.Const 1 (pos 5))
stands = record {
  constant = refl;
  plain = refl;
  to = 1;
  result = refl;
  same = λ r. refl;
  fits = λ a e. subst (λ a. is_below adds Word (kind_at (after adds c 1 (form.Literal literal.AddInt 1 0 (pos 3)) a).registers 1) ≡ true) (some_one (kinds (Word ∷ Undefined ∷ [])) a e) refl;
  encodable = refl;
  short = omega arith;
}

same_form : (n : ℕ) (x f g : Form) → x ≡ f → x ≡ g → Becomes n f g
same_form n x f g e h = subst (λ f. Becomes n f g) e (subst (λ g. Becomes n x g) h Itself)

becomes : (n : ℕ) (f g : Form) → form_at adds_three n ≡ Some f → form_at knows_five n ≡ Some g → Becomes n f g
becomes zero f g e h = same_form 0 (form.Const 0 (pos 2)) f g (some_one _ f e) (some_one _ g h)
becomes (suc zero) f g e h = subst (λ f. Becomes 1 f g) (some_one _ f e) (subst (λ g. Becomes 1 (form.Literal literal.AddInt 1 0 (pos 3)) g) (some_one _ g h) (Constant (form.Const 1 (pos 5)) stands refl))
becomes (suc (suc zero)) f g e h = same_form 2 _ f g (some_one _ f e) (some_one _ g h)
becomes (suc (suc (suc n))) f g e h = none_some f e

pub sum_folded : IsFolded adds c sum_typed five_given goes adds_three knows_five
sum_folded = record { long = refl; forms = becomes; regions = refl; registers = refl; ins = refl }
