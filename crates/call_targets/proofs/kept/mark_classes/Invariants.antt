use Rattle.std.proofs.Common.{◌≡◌, ◌<◌, ℕ, length, take, nat_eq}
use Rattle.std.specs.Prelude.{◌||◌}
use Rattle.std.specs.List.{list_any}
use Rattle.call_targets.specs.Targeted.{is_on}
use Rattle.call_targets.proofs.kept.mark_classes.Given as goal

abbrev pub invariant-loop-one : goal.invariant-loop-one
invariant-loop-one l = record {
  long : length l.marks ≡ length l.fn.marks;
  marked : (n : ℕ) → n < length l.fn.marks → is_on l.marks n ≡ (is_on l.fn.marks n || list_any (λ c. nat_eq n c.class) (take l.one-index l.conditions));
}
