use Rattle.std.proofs.Common.{◌∙◌}
use Rattle.hierarchy.proofs.Definers.{definers_are}
use Rattle.hierarchy.proofs.build.Hierarchy.definers_of.Goals as goal

pub returns : goal.returns
returns c = λ p name proto h k. c.row.ensures ∙ definers_are p c.args.self.now c.args.key name proto h k
