-- What a register holds that was written, or another one.
use Rattle.std.proofs.Common.{◌≡◌, ℕ, Bool, true, false, Option, Some, None, refl, ◌∙◌, ap}
use Rattle.std.specs.Prelude.{◌==◌, cond, if◌then◌else◌}
use Rattle.std.specs.Option.{unwrap_or}
use Rattle.std.specs.Ordering.{nat_cmp}
use Rattle.std.specs.Cmp.{nat_cmp_total, unsigned_tied}
use Rattle.std.specs.FinMap as finite
use Rattle.domains.specs.Values.{Parts, least_value}
use Rattle.dom_frame.specs.Registers.{Registers, value_at, put}

pub value_put : (to : ℕ) (v : Parts) (x : Registers) (r : ℕ) → value_at (put to v x) r ≡ (if r == to then v else value_at x r)
value_put to v x r = ap (λ (o : Option Parts). unwrap_or o least_value) (finite.get-insert nat_cmp_total x to v r ∙ ap (λ b. cond b (Some v) (finite.get x r)) (unsigned_tied r to)) ∙ by (r == to)
  where
    by : (b : Bool) → unwrap_or (cond b (Some v) (finite.get x r)) least_value ≡ (if b then v else value_at x r)
    by true = refl
    by false = refl

pub value_none : (r : ℕ) → value_at finite.empty r ≡ least_value
value_none r = ap (λ (o : Option Parts). unwrap_or o least_value) (finite.get-empty nat_cmp r)
