use Rattle.std.proofs.Common.{◌≡◌, flat_map, map, take, length}
use Rattle.redex_outside.specs.Panels.{HasRun}
use Rattle.pipeline.specs.Asks.{asked_in, no_verdict, AreAnswered}
use Rattle.pipeline.specs.Advised.{verdict}
use Rattle.pipeline.specs.Replies.{turns_in}
use Rattle.pipeline.proofs.asks.ask_all.Given as goal

abbrev pub invariant-loop-class : goal.invariant-loop-class
invariant-loop-class g l = record {
  answered : AreAnswered (length l.initial.panel.advisers.items) (flat_map (asked_in l.live) (take l.class-index l.program.classes)) l.initial.panel.answers.items l.panel.answers.items (no_verdict l.program) (verdict l.advice);
  count : length l.panel.advisers.items ≡ length l.initial.panel.advisers.items;
  run : HasRun (flat_map (turns_in l.live l.program) (take l.class-index l.program.classes))
      (map (λ b. (goal.Adviser-dyn g (b.vtable, b.value)).replies b.value) l.initial.panel.advisers.items) (map (λ b. (goal.Adviser-dyn g (b.vtable, b.value)).replies b.value) l.panel.advisers.items)
      l.initial.panel.answers.items l.panel.answers.items;
}
