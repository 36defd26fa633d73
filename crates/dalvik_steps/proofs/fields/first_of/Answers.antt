use Rattle.dalvik_lookups.specs.Views.{type_text}
use Rattle.dalvik_state.specs.Views.{names_in, value_of}
use Rattle.dalvik_steps.proofs.FirstReads.{first_named, first_nowhere, first_stands}
use Rattle.dalvik_steps.proofs.fields.first_of.Goals as goal

pub returns-in-Some-clause-named : goal.returns-in-Some-clause-named
returns-in-Some-clause-named c = λ k at r h t.
    let l = c.args.tables.now.lookups in
    first_named l r k at c.args.class c.args.place h c.in-Some.field.now (type_text l.types c.args.kind) (value_of (names_in l) c.given_first.result) c.in-Some.ensures t
    (c.given_first.ensures.named r (first_stands l r k at c.args.class c.args.place h c.in-Some.field.now c.in-Some.ensures))

pub returns-in-Some-clause-fine : goal.returns-in-Some-clause-fine
returns-in-Some-clause-fine c = λ k at size r h.
    let l = c.args.tables.now.lookups in
    c.given_first.ensures.fine size r (first_stands l r k at c.args.class c.args.place h c.in-Some.field.now c.in-Some.ensures)

pub returns-in-None-clause-named : goal.returns-in-None-clause-named
returns-in-None-clause-named c = λ k at r h t. first_nowhere c.args.tables.now.lookups r k at c.args.class c.args.place h _ c.in-None.ensures

pub returns-in-None-clause-fine : goal.returns-in-None-clause-fine
returns-in-None-clause-fine c = λ k at size r h. first_nowhere c.args.tables.now.lookups r k at c.args.class c.args.place h _ c.in-None.ensures
