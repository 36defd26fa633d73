use Rattle.class_defs.proofs.WellFormed.{few_classes}
use Rattle.dalvik_lookups.proofs.Making.{has_names_stay}
use Rattle.dalvik_lookups.proofs.Playing.{plays_stay}
use Rattle.dalvik_lookups.proofs.lookups.names_above.Goals as goal

pub returns-clause-names : goal.returns-clause-names
returns-clause-names c = λ w.
    let names = c.in_ok-made.ensures.names (few_classes c.args.program.now w) in
    has_names_stay c.args.program.now c.in_ok-made.made.names _ names (c.in_ok-above.ensures.grows (record { types = names.types; texts = names.texts }))

pub returns-clause-above : goal.returns-clause-above
returns-clause-above c = λ w. c.in_ok-above.ensures.above w (c.in_ok-made.ensures.names (few_classes c.args.program.now w))

pub returns-clause-plays : goal.returns-clause-plays
returns-clause-plays c = λ w.
    let names = c.in_ok-made.ensures.names (few_classes c.args.program.now w) in
    let g = c.in_ok-above.ensures.grows (record { types = names.types; texts = names.texts }) in
    plays_stay c.in_ok-made.made.names.types _ c.in_ok-made.made.names.texts _ g.types g.texts c.args.program.now c.args.script.now c.in_ok-made.made.plays.items (c.in_ok-made.ensures.plays w)
