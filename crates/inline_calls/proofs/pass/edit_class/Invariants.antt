use Rattle.std.proofs.Common.{map}
use Rattle.inline_calls.specs.Asked.{Asks}
use Rattle.inline_calls.specs.Plans.{HaveLooked, LooksAtMethod}
use Rattle.inline_calls.proofs.pass.edit_class.Given as goal

abbrev pub invariant-loop-number : goal.invariant-loop-number
invariant-loop-number g l =
    Asks (map (λ b. (goal.Adviser-dyn g (b.vtable, b.value)).replies b.value) l.initial.panel.advisers.items) (map (λ b. (goal.Adviser-dyn g (b.vtable, b.value)).replies b.value) l.panel.advisers.items)
    l.initial.panel.answers.items l.panel.answers.items (λ rows. HaveLooked (LooksAtMethod l.inliner l.class_place l.class) l.class.methods l.initial.done l.number rows l.row.items l.done)
