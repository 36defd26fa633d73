use Rattle.redex_outside.specs.Turns.{Told}
use Rattle.redex_outside.proofs.Telling.{ToldBelow}
use Rattle.redex_outside.proofs.panel.tell_all.Given as goal

abbrev pub invariant-loop-adviser : goal.invariant-loop-adviser
invariant-loop-adviser g l =
    ToldBelow (λ b. (goal.Adviser-dyn g (b.vtable, b.value)).replies b.value) (Told l.key l.number l.text) l.adviser-index l.initial.advisers l.advisers
