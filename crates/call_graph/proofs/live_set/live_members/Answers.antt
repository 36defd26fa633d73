use Rattle.call_graph.proofs.live_set.live_members.Goals as goal

pub returns-clause-closed : goal.returns-clause-closed
returns-clause-closed c = λ fits is.
    c.marks_of.ensures.closed c.args.program.now c.args.outside.now c.in_ok-tables.tables c.in_ok-tables.ensures.are c.in_ok-facts.ensures.sized (c.in_ok-facts.ensures.closed is fits (c.in_ok-tables.ensures.common fits is))

pub returns-clause-least : goal.returns-clause-least
returns-clause-least c = λ fits is.
    c.marks_of.ensures.least c.args.program.now c.args.outside.now c.in_ok-tables.tables c.in_ok-tables.ensures.are (c.in_ok-facts.ensures.least is fits (c.in_ok-tables.ensures.common fits is) (c.in_ok-tables.ensures.keys fits is))
