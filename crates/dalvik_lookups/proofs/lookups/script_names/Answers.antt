use Rattle.class_defs.proofs.WellFormed.{few_classes}
use Rattle.dalvik_lookups.proofs.Making.{has_names_stay}
use Rattle.dalvik_lookups.proofs.lookups.script_names.Goals as goal

pub returns-clause-names : goal.returns-clause-names
returns-clause-names c = λ small.
    let names = c.in_ok-names.ensures small in
    has_names_stay c.args.program.now c.in_ok-names.names _ names (c.in_ok-plays.ensures.grows (record { types = names.types; texts = names.texts }))

pub returns-clause-plays : goal.returns-clause-plays
returns-clause-plays c = λ w. c.in_ok-plays.ensures.are w (c.in_ok-names.ensures (few_classes c.args.program.now w))
