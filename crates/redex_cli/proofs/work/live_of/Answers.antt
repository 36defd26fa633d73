use Rattle.redex_cli.proofs.FinishedLemmas.{lists_file}
use Rattle.redex_cli.proofs.work.live_of.Goals as goal

pub returns-in-Ok-live_list-clause-lists : goal.returns-in-Ok-live_list-clause-lists
returns-in-Ok-live_list-clause-lists c = λ inputs reads accepted table. lists_file inputs c.args.input.now.program c.args.input.now.outside c.in-Ok.live c.in-Ok-live_list.text.items reads accepted table
    (c.in-Ok.ensures.closed c.requires.formed c.requires.resolved) (c.in-Ok.ensures.least c.requires.formed c.requires.resolved) c.in-Ok-live_list.ensures
