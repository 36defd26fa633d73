use Rattle.std.proofs.Common.{◌≡◌, ◌∙◌, sym, subst, true, slice_index, ltb-true}
use Rattle.std.specs.Prelude.{nat_lt}
use Rattle.std.specs.List.{list_all}
use Rattle.class_defs.specs.Finding.{beside}
use Rattle.hierarchy.proofs.Circles.{all_joined}
use Rattle.hierarchy.proofs.cycle.stands_lower.Goals as goal

pub returns-then-all_past : goal.returns-then-all_past
returns-then-all_past c = λ e u i.
    ltb-true (slice_index c.args.levels.now c.args.class) (slice_index c.args.levels.now u)
    (all_joined (λ v. nat_lt (slice_index c.args.levels.now c.args.class) (slice_index c.args.levels.now v)) c.args.list.now (beside c.args.above) u
    (subst (λ m. list_all (λ v. nat_lt m (slice_index c.args.levels.now v)) c.args.list.now ≡ true) c.count_at-level.ensures (sym c.all_past.ensures ∙ c.if-all_past.true))
    (subst (λ m. list_all (λ v. nat_lt m (slice_index c.args.levels.now v)) (beside c.args.above) ≡ true) c.count_at-level.ensures (sym c.is_past.ensures ∙ e)) i)
