-- What a call answered, handed on.
use Rattle.std.proofs.Common.{◌≡◌, sym, subst}
use Rattle.std.specs.Prelude.{Result, Ok, Err, IfOk, OnErr}

module _ {T E : Type 0} where
  -- the value is the one that was handed in
  pub handed : (r : Result T E) (x : T) (P : T → Type 0) → IfOk r (λ y. y ≡ x) → P x → IfOk r P
  handed (Ok y) x P e h = subst P (sym e) h
  handed (Err y) x P e h = tt

  pub on_err_so : (r : Result T E) (P Q : Type 0) → (P → Q) → OnErr r P → OnErr r Q
  on_err_so (Ok x) P Q f h = tt
  on_err_so (Err x) P Q f h = f h
