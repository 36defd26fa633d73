use Rattle.summaries.proofs.Certifying.{certify_vague}
use Rattle.summaries.proofs.unknown.unknown_facts.Goals as goal

pub returns : goal.returns
returns c = λ formed resolved.
    certify_vague c.args.program.now c.args.outside.now c.in_ok-some.some c.all_live-live.result c.in_ok-found.found c.in_ok-facts.facts formed (c.in_ok-some.ensures.closed formed resolved)
    (c.all_live-live.ensures.fits c.args.program.now c.in_ok-some.ensures.fits) c.all_live-live.ensures.whole (c.in_ok-found.ensures formed resolved) (c.in_ok-facts.ensures formed)
