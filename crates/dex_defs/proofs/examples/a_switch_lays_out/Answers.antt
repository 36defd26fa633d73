use Rattle.dex_defs.proofs.Computed.{sizes, lays_out}
use Rattle.dex_defs.proofs.examples.a_switch_lays_out.Goals as goal

pub returns-clause-sizes : goal.returns-clause-sizes
returns-clause-sizes c = sizes

pub returns-clause-all : goal.returns-clause-all
returns-clause-all c = lays_out
