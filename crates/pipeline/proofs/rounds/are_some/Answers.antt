use Rattle.std.proofs.Common.{sym, ◌∙◌}
use Rattle.pipeline.proofs.Repeating.{some_changes}
use Rattle.pipeline.proofs.rounds.are_some.Goals as goal

pub returns : goal.returns
returns c = λ yes. some_changes c.args.changes.now c.is_none.result c.is_none.ensures yes
