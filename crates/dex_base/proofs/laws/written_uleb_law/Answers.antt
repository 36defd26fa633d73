use Rattle.dex_base.proofs.Written.{uleb_spelled, uleb_shortest, uleb_again}
use Rattle.dex_base.proofs.laws.written_uleb_law.Goals as goal

pub returns-clause-spelled : goal.returns-clause-spelled
returns-clause-spelled c = uleb_spelled

pub returns-clause-shortest : goal.returns-clause-shortest
returns-clause-shortest c = uleb_shortest

pub returns-clause-again : goal.returns-clause-again
returns-clause-again c = uleb_again
