use Rattle.std.proofs.Common.{◌≡◌, ◌∙◌, sym, subst, true, slice_index, leb-true}
use Rattle.std.specs.Prelude.{nat_le}
use Rattle.std.specs.List.{list_all}
use Rattle.class_defs.specs.Finding.{beside}
use Rattle.hierarchy.proofs.Circles.{all_joined}
use Rattle.hierarchy.proofs.cycle.rises.Goals as goal

pub returns-then-all_from : goal.returns-then-all_from
returns-then-all_from c = λ e u i.
    leb-true (slice_index c.args.levels.now c.args.class) (slice_index c.args.levels.now u)
    (all_joined (λ v. nat_le (slice_index c.args.levels.now c.args.class) (slice_index c.args.levels.now v)) c.args.list.now (beside c.args.above) u
    (subst (λ m. list_all (λ v. nat_le m (slice_index c.args.levels.now v)) c.args.list.now ≡ true) c.count_at-level.ensures (sym c.all_from.ensures ∙ c.if-all_from.true))
    (subst (λ m. list_all (λ v. nat_le m (slice_index c.args.levels.now v)) (beside c.args.above) ≡ true) c.count_at-level.ensures (sym c.is_from.ensures ∙ e)) i)
