use Rattle.dex_base.proofs.Written.{sleb_spelled, sleb_shortest, sleb_again}
use Rattle.dex_base.proofs.laws.written_sleb_law.Goals as goal

pub returns-clause-spelled : goal.returns-clause-spelled
returns-clause-spelled c = sleb_spelled

pub returns-clause-shortest : goal.returns-clause-shortest
returns-clause-shortest c = sleb_shortest

pub returns-clause-again : goal.returns-clause-again
returns-clause-again c = sleb_again
