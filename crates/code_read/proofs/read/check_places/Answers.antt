use Rattle.std.proofs.Common.{sym, ◌∙◌}
use Rattle.code_read.proofs.First.{placed_all}
use Rattle.code_read.proofs.read.check_places.Goals as goal

pub returns-in-None-clause-placed : goal.returns-in-None-clause-placed
returns-in-None-clause-placed c = λ k. placed_all c.args.insns.now c.args.regions.now c.args.known (sym c.in-None.is ∙ c.in_ok-found.ensures) k
