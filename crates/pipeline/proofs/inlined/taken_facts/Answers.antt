use Rattle.pipeline.proofs.Inlines.{taken}
use Rattle.pipeline.proofs.inlined.taken_facts.Goals as goal

pub returns : goal.returns
returns c = λ formed graph.
    taken c.args.outside.now c.args.admitted.now.methods.items c.args.program.now c.in_ok-found.found c.facts_or_none.result formed (c.in_ok-found.ensures (λ same. graph)) c.facts_or_none.ensures
