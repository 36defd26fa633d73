use Rattle.std.proofs.Common.{length, vec_len, vec_capacity, ◌+◌, ◌≤◌}
use Rattle.redex_outside.proofs.Asking.{AskedBelow}
use Rattle.redex_outside.proofs.panel.weigh_all.Given as goal

abbrev pub invariant-loop-adviser : goal.invariant-loop-adviser
invariant-loop-adviser g l =
    AskedBelow (λ b. (goal.Adviser-dyn g (b.vtable, b.value)).replies b.value) l.ask l.adviser-index l.initial.advisers l.advisers l.initial.answers.items l.answers.items l.all
    × (vec_len l.answers + length l.advisers ≤ vec_capacity l.answers + l.adviser-index)
