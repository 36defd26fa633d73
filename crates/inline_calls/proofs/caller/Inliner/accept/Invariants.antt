use Rattle.std.proofs.Common.{map}
use Rattle.inline_calls.specs.Asked.{Asks}
use Rattle.inline_calls.specs.Accepting.{IsAccepted}
use Rattle.inline_calls.proofs.caller.Inliner.accept.Given as goal

abbrev pub invariant-loop-position : goal.invariant-loop-position
invariant-loop-position g l =
    Asks (map (λ b. (goal.Adviser-dyn g (b.vtable, b.value)).replies b.value) l.initial.panel.advisers.items) (map (λ b. (goal.Adviser-dyn g (b.vtable, b.value)).replies b.value) l.panel.advisers.items)
    l.initial.panel.answers.items l.panel.answers.items (IsAccepted l.self l.caller l.cells l.position l.accepted)
