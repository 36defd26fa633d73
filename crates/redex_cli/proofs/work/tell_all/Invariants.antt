use Rattle.std.proofs.Common.{flat_map, map, take}
use Rattle.redex_outside.specs.Panels.{HasRun}
use Rattle.redex_cli.proofs.Tells.{turns_one}
use Rattle.redex_cli.proofs.work.tell_all.Given as goal

abbrev pub invariant-loop-tell : goal.invariant-loop-tell
invariant-loop-tell g l = HasRun (flat_map turns_one (take l.tell-index l.tells))
    (map (λ b. (goal.Adviser-dyn g (b.vtable, b.value)).replies b.value) l.initial.panel.advisers.items) (map (λ b. (goal.Adviser-dyn g (b.vtable, b.value)).replies b.value) l.panel.advisers.items)
    l.initial.panel.answers.items l.panel.answers.items
