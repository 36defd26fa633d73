-- A body's end reads nothing.
use Rattle.std.proofs.Common.{◌≡◌, ℕ, sym, ap, ◌∙◌, subst, arith}
use Rattle.std.specs.Prelude.{Contains, Some, None, []}
use Rattle.dalvik_defs.specs.declared.forms.Form.{Form}
use Rattle.dalvik_defs.specs.declared.forms.Form.TheVariants as form
use Rattle.dalvik_defs.specs.declared.program.NamedBody.{NamedBody}
use Rattle.pass_defs.specs.Walks.{form_at, onward, caught, IsReadAt, Here, Onward, Caught}

nothing : (f : Form) → Some f ≡ Some form.ReturnVoid → f ≡ form.ReturnVoid
nothing f e = ap (λ o. elim o as (λ _. Form) [ Some g ↦ g | None ↦ f ]) e

none_in : (m : ℕ) → Contains [] m → ⊥
none_in m (k, low, e) = let f : ⊥ = omega (arith, low) in f

pub end_reads : (b : NamedBody) (r n k : ℕ) → form_at b n ≡ Some form.ReturnVoid → IsReadAt b r n k → ⊥
end_reads b r n k e (Here _ f h x) = let g : f ≡ form.ReturnVoid = nothing f (sym h ∙ e) in cc
end_reads b r n k e (Onward _ m _ f h x y z) = let g : f ≡ form.ReturnVoid = nothing f (sym h ∙ e) in none_in m (subst (λ v. Contains (onward v n) m) g y)
end_reads b r n k e (Caught _ m _ f h y z) = let g : f ≡ form.ReturnVoid = nothing f (sym h ∙ e) in none_in m (subst (λ v. Contains (caught b v n) m) g y)
