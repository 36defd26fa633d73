use Rattle.std.proofs.Common.{◌<◌, arith}
use Rattle.std.specs.Prelude.{◌^◌}
use Rattle.dalvik_steps.proofs.Undone.{on_err}
use Rattle.dalvik_model.specs.Standing.{IsAt}
use Rattle.dalvik_model.proofs.Standing.{next_at}
use Rattle.dalvik_model.proofs.machine.Machine.step.Goals as goal

pub returns-in_err-event-clause-undone : goal.returns-in_err-event-clause-undone
returns-in_err-event-clause-undone c = λ s from at makes.
    let early : c.args.self.now.steps < 2 ^ 32 = omega arith in
    let back : IsAt s (record c.args.self.now { run = c.step_of.new.run }) from = record { run = c.in_err-event.ensures.err s c.args.self.now.steps from early at.run makes } in
    on_err _ _ back

pub returns-clause-step : goal.returns-clause-step
returns-clause-step c = λ s from at makes.
    let early : c.args.self.now.steps < 2 ^ 32 = omega arith in
    next_at s c.args.self.now.steps c.step_of.new.run c.in_ok-event.event from (c.in_ok-event.ensures.ok s c.args.self.now.steps from early at.run makes)
