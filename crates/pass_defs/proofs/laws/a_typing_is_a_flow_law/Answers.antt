use Rattle.pass_defs.proofs.Flows.{typing_flows}
use Rattle.pass_defs.proofs.laws.a_typing_is_a_flow_law.Goals as goal

pub returns : goal.returns
returns c = typing_flows
