-- A value put where it stands already.
use Rattle.std.proofs.Common.{◌≡◌, ℕ, Some, refl, sym, ◌∙◌, ap}
use Rattle.std.specs.Prelude.{◌==◌, cond}
use Rattle.std.specs.Ordering.{nat_cmp}
use Rattle.std.specs.Cmp.{nat_cmp_total, unsigned_tied}
use Rattle.std.specs.FinMap as finite
use Rattle.domains.specs.Values.{Parts}
use Rattle.pat_map.specs.TreeLaws.{same_or_not}
use Rattle.dom_frame.specs.Registers.{Registers, put}

pub stays : (to : ℕ) (v : Parts) (x : Registers) → finite.get x to ≡ Some v → x ≡ put to v x
stays to v x own = finite.same_map nat_cmp_total finite.nat_cmp-IsAntisymmetric x (put to v x)
    (λ k. sym (finite.get-insert nat_cmp_total x to v k ∙ ap (λ b. cond b (Some v) (finite.get x k)) (unsigned_tied k to) ∙ by k))
  where
    by : (k : ℕ) → cond (k == to) (Some v) (finite.get x k) ≡ finite.get x k
    by k = same_or_not k to (λ e r. rw e (sym (ap (finite.get x) r ∙ own))) (λ e r. rw e refl)
