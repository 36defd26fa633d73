use Rattle.redex_cli.proofs.Traced.{shown}
use Rattle.redex_cli.proofs.work.events_of.Goals as goal

pub returns-clause-shown : goal.returns-clause-shown
returns-clause-shown c =
    shown c.run.result (λ events. events.items) c.args.input.now.program c.args.input.now.outside c.args.play.now.framework c.args.play.now.floats
    c.as_slice.result.now c.args.play.now.moves c.args.steps c.as_slice.ensures c.requires c.run.ensures.shown
