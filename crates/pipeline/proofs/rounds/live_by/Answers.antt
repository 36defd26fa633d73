use Rattle.pipeline.proofs.Graphs.{found_fault, found_graph}
use Rattle.pipeline.proofs.Preparing.{marked}
use Rattle.pipeline.proofs.rounds.live_by.Goals as goal

pub returns-in_ok-live-in-Some : goal.returns-in_ok-live-in-Some
returns-in_ok-live-in-Some c = λ formed graph. marked c.args.outside.now c.args.program.now c.in-Some.hierarchy c.in_ok-live-in-Some.live formed
    (found_graph c.args.program.now c.args.graph.now c.in-Some.hierarchy (graph formed) c.in-Some.is) c.in_ok-live-in-Some.ensures.fits c.in_ok-live-in-Some.ensures.closed c.in_ok-live-in-Some.ensures.least

pub returns-in-None : goal.returns-in-None
returns-in-None c = λ formed graph. found_fault c.args.program.now c.args.graph.now (graph formed) c.in-None.is
