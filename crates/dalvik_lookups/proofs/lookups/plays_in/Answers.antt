use Rattle.dalvik_lookups.proofs.lookups.plays_in.Goals as goal

pub returns-clause-grows : goal.returns-clause-grows
returns-clause-grows c = λ r. c.plays_of.ensures.grows r

pub returns-clause-are : goal.returns-clause-are
returns-clause-are c = λ w h. c.plays_of.ensures.are c.args.program.now (record { well = w; named = h; declared = c.in_ok-declared.ensures w })
