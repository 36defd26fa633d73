use Rattle.std.proofs.Common.{subst}
use Rattle.pipeline.specs.Graph.{IsGraph}
use Rattle.pipeline.specs.Passes.{Ungraphed}
use Rattle.pipeline.proofs.Analysed.{none}
use Rattle.pipeline.proofs.Graphs.{found_fault}
use Rattle.pipeline.proofs.passes.facts_of.Goals as goal

pub returns-in_ok-facts-in-Some : goal.returns-in_ok-facts-in-Some
returns-in_ok-facts-in-Some c = λ graph. c.in_ok-facts-in-Some.ensures (subst (IsGraph c.args.program.now) c.in-Some.is graph)

pub returns-in-None : goal.returns-in-None
returns-in-None c = λ graph. none c.args.outside.now c.args.admitted.now.methods.items c.args.program.now (λ formed. Ungraphed (found_fault c.args.program.now c.args.graph.now (graph formed) c.in-None.is))
