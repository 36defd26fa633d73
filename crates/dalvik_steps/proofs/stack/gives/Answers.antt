use Rattle.std.proofs.Common.{◌∙◌, sym}
use Rattle.dalvik_lookups.specs.Views.{type_text}
use Rattle.dalvik_steps.proofs.stack.gives.Goals as goal

pub returns-then-is_outside_below-clause-ok : goal.returns-then-is_outside_below-clause-ok
returns-then-is_outside_below-clause-ok c = λ steps script early r run on given fine.
    c.gives_out.ensures.ok steps script early r run on (sym c.is_outside_below.ensures ∙ c.if-is_outside_below.true) given fine

pub returns-in_ok-gives_within-clause-ok : goal.returns-in_ok-gives_within-clause-ok
returns-in_ok-gives_within-clause-ok c = λ steps script early r run on given fine.
    let l = c.args.tables.now.lookups in
    c.in_ok-gives_within.ensures.ok steps script early r run on (sym c.is_outside_below.ensures ∙ c.if-is_outside_below.false) given fine (type_text l.types c.args.kind)
