-- Methods with code at places.
use Rattle.std.proofs.Common.{◌≡◌, ℕ, refl, sym, ap, ◌∙◌, Option, Some, None}
use Rattle.program_model.specs.declared.program.Method.{Method}
use Rattle.splice.specs.declared.callee.Callee.{Callee}

-- no method stands at the place
pub no_method : (o : Option Method) → o ≡ None → (y : Callee) → o ≡ Some y.method.now → y.method.now.body ≡ Some y.body.now → ⊥
no_method o none y is code =
    let e : None ≡ Some y.method.now = sym none ∙ is in
    absurd (cc e)

-- or one without code
pub no_code : (o : Option Method) (m : Method) → o ≡ Some m → m.body ≡ None → (y : Callee) → o ≡ Some y.method.now → y.method.now.body ≡ Some y.body.now → ⊥
no_code o m is none y at code =
    let e : Some m ≡ Some y.method.now = sym is ∙ at in
    let f : m ≡ y.method.now = cc e in
    let g : None ≡ Some y.body.now = sym none ∙ ap (λ (x : Method). x.body) f ∙ code in
    absurd (cc g)
