use Rattle.std.proofs.Common.{map}
use Rattle.inline_calls.specs.Asked.{Asks}
use Rattle.inline_calls.specs.Plans.{HaveLooked, LooksInClass}
use Rattle.inline_calls.proofs.pass.edit_classes.Given as goal

abbrev pub invariant-loop-place : goal.invariant-loop-place
invariant-loop-place g l =
    Asks (map (λ b. (goal.Adviser-dyn g (b.vtable, b.value)).replies b.value) l.initial.panel.advisers.items) (map (λ b. (goal.Adviser-dyn g (b.vtable, b.value)).replies b.value) l.panel.advisers.items)
    l.initial.panel.answers.items l.panel.answers.items (λ rows. HaveLooked (LooksInClass l.inliner) l.classes l.initial.done l.place rows l.rows.items l.done)
