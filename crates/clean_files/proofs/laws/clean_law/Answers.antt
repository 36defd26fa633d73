use Rattle.clean_files.proofs.Whole.{no_fault, only_graph}
use Rattle.clean_files.proofs.laws.clean_law.Goals as goal

pub returns-clause-graph : goal.returns-clause-graph
returns-clause-graph c = only_graph

pub returns-clause-faultless : goal.returns-clause-faultless
returns-clause-faultless c = no_fault
