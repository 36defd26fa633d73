use Rattle.std.proofs.Common.{◌≡◌, flat_map, map, take, length}
use Rattle.redex_outside.specs.Panels.{HasRun}
use Rattle.pipeline.specs.Asks.{asked_one, AreAnswered}
use Rattle.pipeline.specs.Advised.{verdict}
use Rattle.pipeline.specs.Replies.{turns_one}
use Rattle.pipeline.proofs.asks.ask_class.Given as goal

abbrev pub invariant-loop-method : goal.invariant-loop-method
invariant-loop-method g l = record {
  answered : AreAnswered (length l.initial.panel.advisers.items) (flat_map (asked_one l.live) (take l.method-index l.class.methods)) l.initial.panel.answers.items l.panel.answers.items (verdict l.initial.advice) (verdict l.advice);
  count : length l.panel.advisers.items ≡ length l.initial.panel.advisers.items;
  run : HasRun (flat_map (turns_one l.live l.program l.class) (take l.method-index l.class.methods))
      (map (λ b. (goal.Adviser-dyn g (b.vtable, b.value)).replies b.value) l.initial.panel.advisers.items) (map (λ b. (goal.Adviser-dyn g (b.vtable, b.value)).replies b.value) l.panel.advisers.items)
      l.initial.panel.answers.items l.panel.answers.items;
}
